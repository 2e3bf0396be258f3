use Rattle.std.proofs.Common.{◌≡◌, ◌+◌, ◌*◌, min, length}
use Rattle.std.specs.Prelude.{IsFalse}
use Rattle.exh_prefix.specs.Layout.{layout}
use Rattle.exh_format.specs.Reading.{GivesEntries, blocks_failed, left}
use Rattle.exh_format.proofs.read_table.read_table.Given as goal

abbrev pub invariant-loop-number : goal.invariant-loop-number
invariant-loop-number g l = record {
  unfailed : IsFalse (blocks_failed l.blocks);
  place : l.blocks.place ≡ l.initial.blocks.place + l.number;
  some : length l.entries.items ≡ min (254 * l.number) l.count;
  given : GivesEntries (layout l.fn.version) (left g.R.Read.remaining l.initial.blocks) (left g.R.Read.remaining l.blocks) l.number l.entries.items;
}
