-- Wards of which nothing but the counts of failures differs.
use Rattle.std.proofs.Common.{◌≡◌, ℕ, suc, ◌<◌, List, [], ◌∷◌, ◌++◌, take, length, map, get_or, slice_get, Some, refl, sym, ap, ap₂, ◌∙◌, subst, arith}
use Rattle.std.proofs.lemmas.Option.{slice_get-get_or, slice_get_within}
use Rattle.std.proofs.Math.Seq.{take-append_seam}
use Rattle.exh_keyer.specs.declared.any_keyer.AnyKeyer.{AnyKeyer}
use Rattle.exh_keyer.specs.Pseudokey.{any_pseudokey}
use Rattle.exh_page.specs.KeyMap.{KeyMap}
use Rattle.exh_legal.specs.Pages.{map_of}
use Rattle.exh_ward.specs.WardState.{IsUnchanged, WardState}
use Rattle.exh_in_place.specs.FileChange.{AreParts}
use Rattle.exh_in_place.specs.Opened.{AreWardsOf, IsWardOf, OpenedState}
use Rattle.exh_in_place.specs.Saved.{AreUnchanged}
use Rattle.exh_map.specs.FileMap.{KeepsMap}

abbrev pub own_map : WardState AnyKeyer → KeyMap
own_map ward = map_of ward.pages

-- each has the same map
pub maps_alike : (old new : List (WardState AnyKeyer)) → length new ≡ length old
    → ((number : ℕ) (ward left : WardState AnyKeyer) → slice_get old number ≡ Some ward → slice_get new number ≡ Some left → own_map left ≡ own_map ward) → map own_map new ≡ map own_map old
maps_alike [] [] count each = refl
maps_alike [] (left ∷ new) count each = absurd (omega (arith, count))
maps_alike (ward ∷ old) [] count each = absurd (omega (arith, count))
maps_alike (ward ∷ old) (left ∷ new) count each =
    let rest = maps_alike old new (omega (arith, count)) (λ number one other was there. each (suc number) one other was there) in
    ap₂ (λ (m : KeyMap) (ms : List KeyMap). m ∷ ms) (each 0 ward left refl refl) rest

-- where a list of as many has one
pub same_ward : (old new : List (WardState AnyKeyer)) (number : ℕ) (left : WardState AnyKeyer) → length new ≡ length old → slice_get new number ≡ Some left → (ward : WardState AnyKeyer) × (slice_get old number ≡ Some ward)
same_ward old new number left count there =
    let less : number < length old = omega (arith, slice_get_within new number left there, count) in
    (get_or old number left, slice_get-get_or old number left less)

-- wards of a file that are unchanged are wards of it
module _ (opened : OpenedState) (wards : List (WardState AnyKeyer)) (same : AreUnchanged opened.wards wards) where
  its_ward : (number : ℕ) (old new : WardState AnyKeyer) → IsWardOf opened number old → IsUnchanged old new → IsWardOf (record opened { wards = wards }) number new
  its_ward number old new is unchanged = subst (IsWardOf (record opened { wards = wards }) number) (sym unchanged) (record { cap = is.cap; bits = is.bits; number_is = is.number_is; keyer = is.keyer })

  pub still_wards : AreWardsOf opened → AreWardsOf (record opened { wards = wards })
  still_wards are = record {
    some = are.some;
    most = are.most;
    bits = are.bits;
    count = same.count ∙ are.count;
    each = λ number new there.
        let old = get_or opened.wards number new in
        let less : number < length opened.wards = omega (arith, slice_get_within wards number new there, same.count) in
        let was : slice_get opened.wards number ≡ Some old = slice_get-get_or opened.wards number new less in
        its_ward number old new (are.each number old was) (same.each number old new was there);
  }

  pub still_map : KeepsMap opened (record opened { wards = wards })
  still_map whole has = subst (AreParts opened.ward_bits (any_pseudokey opened.keyer) whole) (sym (maps_alike opened.wards wards same.count (λ number ward left was there. ap own_map (same.each number ward left was there)))) has

-- what was lent and is put back whole
pub put_back : (len : ℕ) (left rest : List (WardState AnyKeyer)) → len ≡ length left → take len (left ++ rest) ≡ left
put_back len left rest is = subst (λ (n : ℕ). take n (left ++ rest) ≡ left) (sym is) (take-append_seam left rest)
