use Rattle.std.proofs.Common.{◌≡◌, length, take}
use Rattle.std.specs.List.{AllByRecursion, flat_map, range_with_len}
use Rattle.exh_prefix.specs.Layout.{written_version}
use Rattle.exh_codec.specs.PageImage.{IsInRange}
use Rattle.exh_placing.specs.Writing.{place_bytes}
use Rattle.exh_stream.specs.Output.{SameWriter, Takes}
use Rattle.exh_file.specs.Placing.{ordered_pages}
use Rattle.exh_file.proofs.placed_saving.write_places.Given as goal

-- what stands at the places so far went to the file
abbrev pub invariant-loop-place : goal.invariant-loop-place
invariant-loop-place g l = record {
  writer : SameWriter l.fn.output l.output;
  taken : Takes g.W.Write.contents l.fn.output l.output (flat_map (place_bytes (ordered_pages l.fn.wards l.order) l.cells) (take l.place (range_with_len 0 (length l.order))));
  ranges : AllByRecursion (IsInRange written_version) (take l.place (ordered_pages l.fn.wards l.order));
  wards : l.wards ≡ l.fn.wards;
}
