use Rattle.std.proofs.Common.{◌≡◌, take}
use Rattle.std.specs.List.{AllByRecursion, flat_map}
use Rattle.exh_prefix.specs.Layout.{written_version}
use Rattle.exh_codec.specs.PageImage.{IsInRange}
use Rattle.exh_format.specs.PageFile.{page_block, pages_of}
use Rattle.exh_stream.specs.Output.{SameWriter, Takes}
use Rattle.exh_file.specs.Saved.{pages_of_all}
use Rattle.exh_file.proofs.saving.write_pages.Given as goal

-- the pages of the wards so far went to the file
abbrev pub invariant-loop-number : goal.invariant-loop-number
invariant-loop-number g l = record {
  writer : SameWriter l.fn.output l.output;
  taken : Takes g.W.Write.contents l.fn.output l.output (flat_map page_block (pages_of (pages_of_all (take l.number l.fn.wards))));
  ranges : AllByRecursion (IsInRange written_version) (pages_of (pages_of_all (take l.number l.fn.wards)));
  wards : l.wards ≡ l.fn.wards;
}
