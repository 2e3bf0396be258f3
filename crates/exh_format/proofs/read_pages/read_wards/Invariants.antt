use Rattle.std.proofs.Common.{◌≡◌, ◌+◌, length, map, take}
use Rattle.std.specs.Prelude.{IsFalse}
use Rattle.std.specs.List.{AllByRecursion, sum}
use Rattle.exh_prefix.specs.Layout.{layout}
use Rattle.exh_keyer.specs.Pseudokey.{any_pseudokey}
use Rattle.exh_format.specs.FileParts.{TakesFormed, pages_read}
use Rattle.exh_format.specs.Reading.{GivesPages, blocks_failed, left}
use Rattle.exh_format.proofs.read_pages.read_wards.Given as goal

abbrev pub invariant-loop-count : goal.invariant-loop-count
invariant-loop-count g l = record {
  unfailed : IsFalse (blocks_failed l.blocks);
  place : l.blocks.place ≡ l.initial.blocks.place + sum (take l.count-index l.counts);
  some : length (pages_read g.W.PageList.pages l.wards.items) ≡ sum (take l.count-index l.counts);
  counts : map (λ ward. length (g.W.PageList.pages ward)) l.wards.items ≡ take l.count-index l.counts;
  takes : AllByRecursion (TakesFormed g.W.ReadPages.takes (any_pseudokey l.keyer)) l.wards.items;
  given : GivesPages (layout l.fn.version) (any_pseudokey l.keyer) (left g.R.Read.remaining l.initial.blocks) (left g.R.Read.remaining l.blocks) (pages_read g.W.PageList.pages l.wards.items);
}
