use Rattle.std.proofs.Common.{◌≡◌, length, take}
use Rattle.std.specs.declared.cmp.Ordering.TheVariants.{Less}
use Rattle.std.specs.List.{All, flat_map}
use Rattle.exh_page.specs.PackedRecords.{record_text}
use Rattle.exh_page.specs.Place.{place_cmp, place_of}
use Rattle.exh_page.proofs.packed_records.PackedRecords.search.Given as goal

-- the records so far stand before the place, and the bytes so far are theirs
abbrev pub invariant-loop-i : goal.invariant-loop-i
invariant-loop-i l = record {
  start_of : l.start ≡ length (flat_map record_text (take l.i l.self));
  before : All (λ r. place_cmp (place_of r) (l.pseudokey, l.key) ≡ Less) (take l.i l.self);
}
