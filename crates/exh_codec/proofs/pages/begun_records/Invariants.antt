use Rattle.std.proofs.Common.{◌≡◌, map, take}
use Rattle.std.specs.List.{AllByRecursion}
use Rattle.arrayvec.specs.ArrayVec.{array_vec_len}
use Rattle.exh_page.specs.Prefix.{Begins}
use Rattle.exh_codec.specs.Cells.{record_borrowed, pair_in}
use Rattle.exh_codec.specs.ImageTests.{record_of}
use Rattle.exh_codec.proofs.pages.begun_records.Given as goal

abbrev pub invariant-loop-cell : goal.invariant-loop-cell
invariant-loop-cell g l = record {
  records : map record_borrowed l.records.items ≡ map (record_of (g.K.Keyer.pseudokey_of l.keyer)) (map pair_in (take l.cell-index l.cells));
  begun : AllByRecursion (λ pair. Begins l.prefix (g.K.Keyer.pseudokey_of l.keyer pair.0)) (map pair_in (take l.cell-index l.cells));
  len : array_vec_len l.records ≡ l.cell-index;
}
