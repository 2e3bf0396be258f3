use Rattle.std.proofs.Common.{◌≡◌, ◌-◌, ◌<◌, ◌≤◌, length}
use Rattle.exh_prefix.specs.declared.prefix.TheConstants.{LIMIT}
use Rattle.exh_direct.specs.TableSearch.{IsOnWay}
use Rattle.exh_edits.specs.CellWalk.{ComesTo}
use Rattle.exh_edits.specs.PlacedAnswer.{HasRead}
use Rattle.exh_edits.specs.WalkBlocks.{pages_in}
use Rattle.exh_edits.proofs.named.named_place.Given as goal

-- the walk has come to the leaf, and a block was read at most for each bit of its prefix
abbrev pub invariant-loop-alloc : goal.invariant-loop-alloc
invariant-loop-alloc g l = record {
  same : g.B.Blocks.known l.blocks ≡ g.B.Blocks.known l.initial.blocks;
  on_way : IsOnWay l.pseudokey l.leaf;
  come : ComesTo l.header.settings.ward_bits l.pseudokey l.read.items l.leaf;
  there : l.leaf.page < pages_in l.header;
  read : HasRead (g.B.Blocks.known l.initial.blocks) l.header l.pseudokey (g.B.Blocks.reads l.initial.blocks) (g.B.Blocks.reads l.blocks) l.read.items;
  few : length l.read.items ≤ length l.leaf.prefix;
}

abbrev pub decreases-loop-alloc : goal.decreases-loop-alloc
decreases-loop-alloc g l = LIMIT - length l.leaf.prefix
