-- The pairs of all wards of a file, and the one map that the wards have together.
use Rattle.std.proofs.Common.{◌≡◌, ℕ, zero, suc, ◌<◌, Bool, true, false, cond, List, [], ◌∷◌, ◌++◌, length, slice_get, Option, None, Some, refl, sym, ap, ◌∙◌, nat_cmp, arith}
use Rattle.std.specs.FinMap as fin
use Rattle.std.specs.Option.{option_map}
use Rattle.std.specs.Ordering.{eq_by_cmp}
use Rattle.std.specs.Cmp.Lexicographic.{slice_cmp}
use Rattle.std.proofs.lemmas.Cmp.{nat_list_cmp_total}
use Rattle.std.proofs.lemmas.Option.{slice_get-map}
use Rattle.exh_prefix.specs.Leading.{ward_of}
use Rattle.exh_prefix.specs.LeadingLemmas.{leading-lt}
use Rattle.exh_keyer.specs.declared.any_keyer.AnyKeyer.{AnyKeyer}
use Rattle.exh_keyer.specs.Pseudokey.{any_pseudokey}
use Rattle.exh_page.specs.KeyMap.{KeyMap}
use Rattle.exh_page.specs.KeyMapLemmas.{same_maps}
use Rattle.exh_legal.specs.Pages.{map_of}
use Rattle.exh_ward.specs.WardState.{WardState}
use Rattle.exh_in_place.specs.FileChange.{HasMap, IsPart}
use Rattle.exh_in_place.specs.Opened.{AreWardsOf, OpenedState}
use Rattle.exh_map.specs.Pairs.{pairs_in, pairs_of}

-- ---- what is found in lists of pairs

module _ (key : List ℕ) where
  abbrev pub found : List (List ℕ × List ℕ) → Option (List ℕ)
  found pairs = fin.find (slice_cmp nat_cmp) key pairs

  passed : (b : Bool) (value : List ℕ) (rest more behind : Option (List ℕ)) → cond b (Some value) rest ≡ None → (rest ≡ None → more ≡ behind) → cond b (Some value) more ≡ behind
  passed true value rest more behind none then = let never : Some value ≡ None = none in cc
  passed false value rest more behind none then = then none

  -- where those in front have none
  found_behind : (front back : List (List ℕ × List ℕ)) → found front ≡ None → found (front ++ back) ≡ found back
  found_behind [] back none = refl
  found_behind (pair ∷ front) back none = passed (eq_by_cmp (slice_cmp nat_cmp) key pair.0) pair.1 (found front) (found (front ++ back)) (found back) none (found_behind front back)

  -- where those behind have none
  found_before : (front back : List (List ℕ × List ℕ)) → found back ≡ None → found (front ++ back) ≡ found front
  found_before [] back none = none
  found_before (pair ∷ front) back none = ap (cond (eq_by_cmp (slice_cmp nat_cmp) key pair.0) (Some pair.1)) (found_before front back none)

  -- ---- in wards

  none_in : (wards : List (WardState AnyKeyer)) → ((number : ℕ) (ward : WardState AnyKeyer) → slice_get wards number ≡ Some ward → found (pairs_of ward.pages) ≡ None) → found (pairs_in wards) ≡ None
  none_in [] each = refl
  none_in (ward ∷ wards) each = found_behind (pairs_of ward.pages) (pairs_in wards) (each 0 ward refl) ∙ none_in wards (λ number one there. each (suc number) one there)

  pub one_in : (wards : List (WardState AnyKeyer)) (at : ℕ) (ward : WardState AnyKeyer) → slice_get wards at ≡ Some ward
      → ((number : ℕ) (one : WardState AnyKeyer) → slice_get wards number ≡ Some one → (number ≡ at → ⊥) → found (pairs_of one.pages) ≡ None) → found (pairs_in wards) ≡ found (pairs_of ward.pages)
  one_in [] at ward there others = cc
  one_in (first ∷ wards) zero ward there others =
      let same : first ≡ ward = cc in
      found_before (pairs_of first.pages) (pairs_in wards) (none_in wards (λ number one is. others (suc number) one is (λ same. absurd (omega (arith, same)))))
      ∙ ap (λ (w : WardState AnyKeyer). found (pairs_of w.pages)) same
  one_in (first ∷ wards) (suc at) ward there others =
      found_behind (pairs_of first.pages) (pairs_in wards) (others 0 first refl (λ same. absurd (omega (arith, same))))
      ∙ one_in wards at ward there (λ number one is else. others (suc number) one is (λ same. else (omega (arith, same))))

pub there_is : (wards : List (WardState AnyKeyer)) (at : ℕ) → at < length wards → (ward : WardState AnyKeyer) × (slice_get wards at ≡ Some ward)
there_is [] at small = absurd (omega (arith, small))
there_is (ward ∷ wards) zero small = (ward, refl)
there_is (ward ∷ wards) (suc at) small = there_is wards at (omega (arith, small))

-- ---- the one map

module _ (file : OpenedState) (are : AreWardsOf file) (whole : KeyMap) (has : HasMap file whole) where
  abbrev own_map : WardState AnyKeyer → KeyMap
  own_map ward = map_of ward.pages

  part : (number : ℕ) (ward : WardState AnyKeyer) → slice_get file.wards number ≡ Some ward → IsPart file.ward_bits (any_pseudokey file.keyer) whole number (own_map ward)
  part number ward there = has.each number (own_map ward) (slice_get-map own_map file.wards number ∙ ap (option_map own_map) there)

  own_found : (ward : WardState AnyKeyer) (key : List ℕ) → found key (pairs_of ward.pages) ≡ fin.get (own_map ward) key
  own_found ward key = sym (fin.get-from_entries nat_list_cmp_total (pairs_of ward.pages) key)

  abbrev all_map : KeyMap
  all_map = fin.from_entries (pairs_in file.wards)

  at_key : (key : List ℕ) → fin.get all_map key ≡ fin.get whole key
  at_key key =
      let at = ward_of file.ward_bits (any_pseudokey file.keyer key) in
      let small : at < length file.wards = omega (arith, leading-lt file.ward_bits (any_pseudokey file.keyer key) (omega (arith, are.bits)), are.count) in
      let there = there_is file.wards at small in
      fin.get-from_entries nat_list_cmp_total (pairs_in file.wards) key
      ∙ one_in key file.wards at there.0 there.1 (λ number one is else. own_found one key ∙ (part number one is).no_others key (λ same. else (sym same)))
      ∙ own_found there.0 key ∙ (part at there.0 there.1).own_keys key refl

  pub whole_is : all_map ≡ whole
  whole_is = same_maps all_map whole at_key
