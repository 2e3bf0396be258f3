use Rattle.std.proofs.Common.{◌≡◌, ℕ, ◌-◌, ◌*◌, [], length}
use Rattle.exh_prefix.specs.declared.prefix.TheConstants.{LIMIT}
use Rattle.exh_format.specs.FileVersion.{file_version}
use Rattle.exh_direct.specs.TableSearch.{HasComeTo, IsOnWay, ReadsOn}
use Rattle.exh_direct.proofs.named.named_page.Given as goal

abbrev pub invariant-loop-alloc : goal.invariant-loop-alloc
invariant-loop-alloc g l = record {
  same : g.B.Blocks.known l.blocks ≡ g.B.Blocks.known l.initial.blocks;
  on_way : IsOnWay l.pseudokey l.leaf;
  come : (splits : ℕ) × HasComeTo l.read.items l.header l.pseudokey splits l.leaf;
  reads : ReadsOn (file_version l.version) (g.B.Blocks.known l.initial.blocks) l.header (g.B.Blocks.reads l.initial.blocks) (g.B.Blocks.reads l.blocks) [] l.read.items (13 * length l.leaf.prefix);
}

abbrev pub decreases-loop-alloc : goal.decreases-loop-alloc
decreases-loop-alloc g l = LIMIT - length l.leaf.prefix
