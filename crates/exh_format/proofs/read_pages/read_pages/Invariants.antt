use Rattle.std.proofs.Common.{◌≡◌, ◌+◌, length}
use Rattle.std.specs.Prelude.{IsFalse}
use Rattle.exh_prefix.specs.Layout.{layout}
use Rattle.exh_keyer.specs.Pseudokey.{any_pseudokey}
use Rattle.exh_format.specs.FileParts.{TakesFormed}
use Rattle.exh_format.specs.Reading.{GivesPages, blocks_failed, left}
use Rattle.exh_format.proofs.read_pages.read_pages.Given as goal

abbrev pub invariant-loop-number : goal.invariant-loop-number
invariant-loop-number g l = record {
  unfailed : IsFalse (blocks_failed l.blocks);
  place : l.blocks.place ≡ l.initial.blocks.place + l.number;
  some : length (g.W.PageList.pages l.pages) ≡ l.number;
  given : GivesPages (layout l.fn.version) (any_pseudokey l.keyer) (left g.R.Read.remaining l.initial.blocks) (left g.R.Read.remaining l.blocks) (g.W.PageList.pages l.pages);
  takes : TakesFormed g.W.ReadPages.takes (any_pseudokey l.keyer) l.pages;
}
