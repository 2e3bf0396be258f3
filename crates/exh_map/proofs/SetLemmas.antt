-- A ward that takes the place of another, among the wards of a file.
use Rattle.std.proofs.Common.{◌≡◌, ℕ, slice_get, map, get_or, Some, inl, inr, sym, ap, ◌∙◌, subst}
use Rattle.std.specs.Prelude.{slice_set}
use Rattle.std.specs.FinMap as fin
use Rattle.std.specs.Option.{option_map}
use Rattle.std.proofs.lemmas.Bool.{cases_eq}
use Rattle.std.proofs.lemmas.List.{length-set, map-set, set-get_or}
use Rattle.std.proofs.lemmas.Option.{get_or_from_slice_get, slice_get-map}
use Rattle.exh_prefix.specs.PrefixListLemmas.{one_there, set_else, set_here}
use Rattle.exh_keyer.specs.declared.any_keyer.AnyKeyer.{AnyKeyer}
use Rattle.exh_keyer.specs.Pseudokey.{any_pseudokey}
use Rattle.exh_page.specs.KeyMap.{KeyMap}
use Rattle.exh_legal.specs.Pages.{map_of}
use Rattle.exh_ward.specs.WardState.{IsUnchanged, WardState}
use Rattle.exh_in_place.specs.FileChange.{AreParts, maps_in}
use Rattle.exh_in_place.specs.InWardLemmas.{HasSettings}
use Rattle.exh_in_place.specs.Opened.{AreWardsOf, OpenedState}
use Rattle.exh_map.specs.FileMap.{IsSameMap, KeepsMap}

pub unchanged_same : (old new : WardState AnyKeyer) → IsUnchanged old new → IsSameMap old new
unchanged_same old new is = record {
  map = ap (λ (w : WardState AnyKeyer). map_of w.pages) is;
  settings = record {
    cap = ap (λ (w : WardState AnyKeyer). w.cap) is;
    bits = ap (λ (w : WardState AnyKeyer). w.ward_bits) is;
    number = ap (λ (w : WardState AnyKeyer). w.number) is;
    keyer = ap (λ (w : WardState AnyKeyer). w.keyer) is;
  };
}

abbrev own_map : WardState AnyKeyer → KeyMap
own_map ward = map_of ward.pages

module _ (old : OpenedState) (at : ℕ) (ward after : WardState AnyKeyer) (there : slice_get old.wards at ≡ Some ward) where
  abbrev pub left : OpenedState
  left = record old { wards = slice_set old.wards at after }

  here : slice_get (slice_set old.wards at after) at ≡ Some after
  here = set_here old.wards at ward after there

  pub wards_set : AreWardsOf old → HasSettings ward after → AreWardsOf left
  wards_set are kept =
      let own = are.each at ward there in
      record {
        some = are.some;
        most = are.most;
        bits = are.bits;
        count = length-set old.wards at after ∙ are.count;
        each = λ number one found. elim (cases_eq number at) [
          | inl same ↦
              let one_is : one ≡ after = one_there (slice_set old.wards at after) at one after (subst (λ n. slice_get (slice_set old.wards at after) n ≡ Some one) same found) here in
              record {
                cap = ap (λ (w : WardState AnyKeyer). w.cap) one_is ∙ kept.cap ∙ own.cap;
                bits = ap (λ (w : WardState AnyKeyer). w.ward_bits) one_is ∙ kept.bits ∙ own.bits;
                number_is = ap (λ (w : WardState AnyKeyer). w.number) one_is ∙ kept.number ∙ own.number_is ∙ sym same;
                keyer = ap (λ (w : WardState AnyKeyer). w.keyer) one_is ∙ kept.keyer ∙ own.keyer;
              }
          | inr other ↦
              let is = are.each number one (sym (set_else old.wards at number after other) ∙ found) in
              record { cap = is.cap; bits = is.bits; number_is = is.number_is; keyer = is.keyer }
        ];
      }

  -- the maps, where it has this map
  pub maps_set : (own : KeyMap) → own_map after ≡ own → maps_in left ≡ slice_set (maps_in old) at own
  maps_set own is = map-set own_map old.wards at after ∙ ap (slice_set (map own_map old.wards) at) is

  map_there : get_or (maps_in old) at fin.empty ≡ own_map ward
  map_there = get_or_from_slice_get (map own_map old.wards) at (own_map ward) fin.empty (slice_get-map own_map old.wards at ∙ ap (option_map own_map) there)

  pub maps_same : own_map after ≡ own_map ward → maps_in left ≡ maps_in old
  maps_same same = maps_set (own_map ward) same ∙ ap (slice_set (maps_in old) at) (sym map_there) ∙ set-get_or (maps_in old) at fin.empty

  pub keeps_set : IsSameMap ward after → KeepsMap old left
  keeps_set same whole has = subst (AreParts old.ward_bits (any_pseudokey old.keyer) whole) (sym (maps_same same.map)) has
