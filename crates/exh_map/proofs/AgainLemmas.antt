-- Wards that were opened again, and the pairs of a list of wards.
use Rattle.std.proofs.Common.{◌≡◌, ℕ, ◌^◌, List, [], ◌∷◌, ◌++◌, map, Result, Ok, Err, IfOk, refl, sym, ap, ◌∙◌, subst, arith}
use Rattle.std.specs.List.{flat_map}
use Rattle.std.proofs.lemmas.Grind.{flat_map-append}
use Rattle.std.proofs.lemmas.List.{map-append}
use Rattle.exh_keyer.specs.declared.any_keyer.AnyKeyer.{AnyKeyer}
use Rattle.exh_keyer.specs.Pseudokey.{any_pseudokey}
use Rattle.exh_page.specs.KeyMap.{pair_of}
use Rattle.exh_page.specs.Page.{records_of}
use Rattle.exh_format.specs.PageFile.{pages_of}
use Rattle.exh_ward.specs.WardState.{WardState}
use Rattle.exh_in_place.specs.FileChange.{AreParts, maps_in}
use Rattle.exh_in_place.specs.Opened.{AreWardsOf, OpenedState}
use Rattle.exh_in_place.specs.Reopened.{IsReopened}
use Rattle.exh_in_place.specs.Saved.{pages_of_all}
use Rattle.exh_map.specs.FileMap.{KeepsMap}
use Rattle.exh_map.specs.Pairs.{pairs_in, pairs_of}
use Rattle.exh_map.specs.declared.store_error.StoreError.{StoreError}
use Rattle.exh_map.proofs.LeftLemmas.{maps_alike, own_map, same_ward}

-- ---- wards that were opened again

module _ (old new : OpenedState) (again : IsReopened old new) where
  pub keeps_again : KeepsMap old new
  keeps_again whole has =
      let maps : maps_in new ≡ maps_in old = maps_alike old.wards new.wards again.count (λ number ward left was there. ap own_map (again.each number ward left was there)) in
      let own = subst (AreParts old.ward_bits (any_pseudokey old.keyer) whole) (sym maps) has in
      let bits = subst (λ (bits : ℕ). AreParts bits (any_pseudokey old.keyer) whole (maps_in new)) (sym again.bits) own in
      subst (λ (keyer : AnyKeyer). AreParts new.ward_bits (any_pseudokey keyer) whole (maps_in new)) (sym again.keyer) bits

  pub wards_again : AreWardsOf old → AreWardsOf new
  wards_again are = record {
    some = omega (arith, are.some, again.cap);
    most = omega (arith, are.most, again.cap);
    bits = omega (arith, are.bits, again.bits);
    count = again.count ∙ are.count ∙ ap (λ (bits : ℕ). 2 ^ bits) (sym again.bits);
    each = λ number ward there.
        let was = same_ward old.wards new.wards number ward again.count there in
        let is = again.each number was.0 ward was.1 there in
        let own = are.each number was.0 was.1 in
        record {
          cap = ap (λ (w : WardState AnyKeyer). w.cap) is ∙ own.cap ∙ sym again.cap;
          bits = ap (λ (w : WardState AnyKeyer). w.ward_bits) is ∙ own.bits ∙ sym again.bits;
          number_is = ap (λ (w : WardState AnyKeyer). w.number) is ∙ own.number_is;
          keyer = ap (λ (w : WardState AnyKeyer). w.keyer) is ∙ own.keyer ∙ sym again.keyer;
        };
  }

pub keeps_again_if : (old : OpenedState) (result : Result OpenedState StoreError) → IfOk result (IsReopened old) → IfOk result (λ copy. KeepsMap old copy)
keeps_again_if old (Ok copy) again = keeps_again old copy again
keeps_again_if old (Err fault) again = tt

pub wards_again_if : (old : OpenedState) (result : Result OpenedState StoreError) → AreWardsOf old → IfOk result (IsReopened old) → IfOk result (λ copy. AreWardsOf copy)
wards_again_if old (Ok copy) are again = wards_again old copy again are
wards_again_if old (Err fault) are again = tt

-- ---- pairs

pub all_pairs : (wards : List (WardState AnyKeyer)) → map pair_of (flat_map records_of (pages_of (pages_of_all wards))) ≡ pairs_in wards
all_pairs [] = refl
all_pairs (ward ∷ wards) =
    ap (map pair_of) (flat_map-append records_of ward.pages (pages_of (pages_of_all wards)))
    ∙ map-append pair_of (flat_map records_of ward.pages) (flat_map records_of (pages_of (pages_of_all wards)))
    ∙ ap (λ (more : List (List ℕ × List ℕ)). pairs_of ward.pages ++ more) (all_pairs wards)
