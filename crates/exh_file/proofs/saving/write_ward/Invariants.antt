use Rattle.std.proofs.Common.{◌≡◌, ◌≤◌, length, take}
use Rattle.std.specs.List.{AllByRecursion, flat_map}
use Rattle.exh_prefix.specs.Layout.{written_version}
use Rattle.exh_codec.specs.PageImage.{IsInRange}
use Rattle.exh_format.specs.PageFile.{page_block}
use Rattle.exh_stream.specs.Output.{SameWriter, Takes}
use Rattle.exh_file.proofs.saving.write_ward.Given as goal

-- the pages so far went to the file
abbrev pub invariant-loop-number : goal.invariant-loop-number
invariant-loop-number g l = record {
  within : l.number ≤ length l.fn.ward.pages;
  writer : SameWriter l.fn.output l.output;
  taken : Takes g.W.Write.contents l.fn.output l.output (flat_map page_block (take l.number l.fn.ward.pages));
  ranges : AllByRecursion (IsInRange written_version) (take l.number l.fn.ward.pages);
  ward : l.ward ≡ l.fn.ward;
}
