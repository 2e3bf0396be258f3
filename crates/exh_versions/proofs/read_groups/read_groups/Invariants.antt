use Rattle.std.proofs.Common.{◌≡◌, ◌+◌, ◌*◌, min}
use Rattle.std.specs.Prelude.{IsFalse}
use Rattle.exh_versions.specs.Reading.{ReadsGroups}
use Rattle.exh_versions.specs.Sources.{blocks_failed, left}
use Rattle.exh_versions.proofs.read_groups.read_groups.Given as goal

abbrev pub invariant-loop-group : goal.invariant-loop-group
invariant-loop-group g l = record {
  unfailed : IsFalse (blocks_failed l.blocks);
  place : l.blocks.place ≡ l.initial.blocks.place + (l.group + min (24 * l.group) l.count);
  read : ReadsGroups g.W.PageList.pages g.W.ReadPages.takes l.settings (left g.R.Read.remaining l.initial.blocks) (left g.R.Read.remaining l.blocks) l.group (min (24 * l.group) l.count) l.pages l.cells.items;
}
