use Rattle.std.proofs.Common.{◌≡◌, ◌+◌}
use Rattle.std.specs.Prelude.{IsFalse}
use Rattle.exh_versions.specs.Reading.{ReadsPages}
use Rattle.exh_versions.specs.Sources.{blocks_failed, left}
use Rattle.exh_versions.proofs.read_groups.read_pages.Given as goal

abbrev pub invariant-loop-number : goal.invariant-loop-number
invariant-loop-number g l = record {
  unfailed : IsFalse (blocks_failed l.blocks);
  place : l.blocks.place ≡ l.initial.blocks.place + l.number;
  read : ReadsPages g.W.PageList.pages g.W.ReadPages.takes l.settings (left g.R.Read.remaining l.initial.blocks) (left g.R.Read.remaining l.blocks) l.number l.initial.pages l.pages;
}
