-- Pairs whose keys are of classes: what is found among those of each class is found among all, and keys that are once in each are once in all.
use Rattle.std.proofs.Common.{◌≡◌, ◌≢◌, ℕ, zero, suc, ◌+◌, ◌<◌, ◌≤◌, Bool, true, false, cond, eqb, List, [], ◌∷◌, ◌++◌, filter, Option, None, Some, inl, inr, refl, sym, ap, ◌∙◌, subst, nat_cmp, arith}
use Rattle.std.specs.FinMap as fin
use Rattle.std.specs.List.{AllByRecursion, flat_map, range_with_len}
use Rattle.std.specs.Ordering.{eq_by_cmp}
use Rattle.std.specs.Cmp.Lexicographic.{slice_cmp}
use Rattle.std.proofs.lemmas.Bool.{cases_eq, cases_lt}
use Rattle.std.proofs.lemmas.Bool.Decides.{eqb_tells}
use Rattle.std.proofs.lemmas.Cmp.{nat_list_cmp_total}
use Rattle.std.proofs.lemmas.Map.Lookups.{exact_bytes}
use Rattle.exh_prefix.specs.PrefixListLemmas.{AllByRecursion-append_left, is_equal}
use Rattle.exh_page.specs.KeyMap.{KeyMap}
use Rattle.exh_page.specs.KeyMapLemmas.{same_maps}
use Rattle.exh_codec.specs.Cells.{Pair}
use Rattle.exh_map.specs.Pairs.{AreOnce}

-- ---- what is found for a key

module _ (key : List ℕ) where
  abbrev found : List Pair → Option (List ℕ)
  found pairs = fin.find (slice_cmp nat_cmp) key pairs

  passed : (b : Bool) (value : List ℕ) (rest more behind : Option (List ℕ)) → cond b (Some value) rest ≡ None → (rest ≡ None → more ≡ behind) → cond b (Some value) more ≡ behind
  passed true value rest more behind none then = let never : Some value ≡ None = none in cc
  passed false value rest more behind none then = then none

  -- where those in front have none
  found_behind : (front back : List Pair) → found front ≡ None → found (front ++ back) ≡ found back
  found_behind [] back none = refl
  found_behind (pair ∷ front) back none = passed (eq_by_cmp (slice_cmp nat_cmp) key pair.0) pair.1 (found front) (found (front ++ back)) (found back) none (found_behind front back)

  -- where those behind have none
  found_before : (front back : List Pair) → found back ≡ None → found (front ++ back) ≡ found front
  found_before [] back none = none
  found_before (pair ∷ front) back none = ap (cond (eq_by_cmp (slice_cmp nat_cmp) key pair.0) (Some pair.1)) (found_before front back none)

module _ (class : List ℕ → ℕ) where
  -- the pairs of a class
  abbrev pub of_class : ℕ → List Pair → List Pair
  of_class number pairs = filter (λ pair. eqb (class pair.0) number) pairs

  same_class : (key other : List ℕ) → eq_by_cmp (slice_cmp nat_cmp) key other ≡ true → class other ≡ class key
  same_class key other tied = ap class (sym (exact_bytes key other (is_equal (slice_cmp nat_cmp key other) tied)))

  found_own : (key : List ℕ) (pairs : List Pair) → found key (of_class (class key) pairs) ≡ found key pairs
  found_own key [] = refl
  found_own key (pair ∷ pairs) =
      let tied = eq_by_cmp (slice_cmp nat_cmp) key pair.0 in
      let rest = of_class (class key) pairs in
      elim (eqb_tells (class pair.0) (class key)) [
        | inl same ↦ ap (λ (is : Bool). found key (cond is (pair ∷ rest) rest)) same.0 ∙ ap (cond tied (Some pair.1)) (found_own key pairs)
        | inr other ↦ ap (λ (is : Bool). found key (cond is (pair ∷ rest) rest)) other.0 ∙ found_own key pairs ∙ sym (untied tied pair.1 (found key pairs) (λ is. other.1 (same_class key pair.0 is)))
      ]
    where
      untied : (b : Bool) (value : List ℕ) (rest : Option (List ℕ)) → (b ≡ true → ⊥) → cond b (Some value) rest ≡ rest
      untied true value rest never = absurd (never refl)
      untied false value rest never = refl

  found_else : (key : List ℕ) (number : ℕ) (pairs : List Pair) → (class key ≡ number → ⊥) → found key (of_class number pairs) ≡ None
  found_else key number [] differ = refl
  found_else key number (pair ∷ pairs) differ =
      let tied = eq_by_cmp (slice_cmp nat_cmp) key pair.0 in
      let rest = of_class number pairs in
      elim (eqb_tells (class pair.0) number) [
        | inl same ↦ ap (λ (is : Bool). found key (cond is (pair ∷ rest) rest)) same.0 ∙ untied tied pair.1 (found key rest) (λ is. differ (sym (same_class key pair.0 is) ∙ same.1)) ∙ found_else key number pairs differ
        | inr other ↦ ap (λ (is : Bool). found key (cond is (pair ∷ rest) rest)) other.0 ∙ found_else key number pairs differ
      ]
    where
      untied : (b : Bool) (value : List ℕ) (rest : Option (List ℕ)) → (b ≡ true → ⊥) → cond b (Some value) rest ≡ rest
      untied true value rest never = absurd (never refl)
      untied false value rest never = refl

  module _ (pairs : List Pair) where
    -- those of so many classes from one on, class by class
    abbrev pub by_class : ℕ → ℕ → List Pair
    by_class from count = flat_map (λ number. of_class number pairs) (range_with_len from count)

    none_before : (key : List ℕ) (from count : ℕ) → class key < from → found key (by_class from count) ≡ None
    none_before key from zero less = refl
    none_before key from (suc count) less =
        found_behind key (of_class from pairs) (by_class (from + 1) count) (found_else key from pairs (λ same. absurd (omega (arith, same, less)))) ∙ none_before key (from + 1) count (omega (arith, less))

    found_among : (key : List ℕ) (from count : ℕ) → from ≤ class key → class key < from + count → found key (by_class from count) ≡ found key pairs
    found_among key from zero above below = absurd (omega (arith, above, below))
    found_among key from (suc count) above below = elim (cases_eq (class key) from) [
      | inl same ↦ found_before key (of_class from pairs) (by_class (from + 1) count) (none_before key (from + 1) count (omega (arith, same)))
          ∙ ap (λ (number : ℕ). found key (of_class number pairs)) (sym same) ∙ found_own key pairs
      | inr differ ↦ found_behind key (of_class from pairs) (by_class (from + 1) count) (found_else key from pairs differ)
          ∙ found_among key (from + 1) count (omega (arith, above, differ)) (omega (arith, below))
    ]

    -- ---- the map of all

    pub same_map : (count : ℕ) → ((key : List ℕ) → class key < count) → fin.from_entries {R = slice_cmp nat_cmp} pairs ≡ fin.from_entries {R = slice_cmp nat_cmp} (by_class 0 count)
    same_map count below = same_maps (fin.from_entries pairs) (fin.from_entries (by_class 0 count)) (λ key.
        fin.get-from_entries nat_list_cmp_total pairs key ∙ sym (found_among key 0 count (omega arith) (omega (arith, below key))) ∙ sym (fin.get-from_entries nat_list_cmp_total (by_class 0 count) key))

    -- ---- keys that are once

    part_once : (front back : List Pair) → AreOnce (front ++ back) → AreOnce front × AreOnce back
    part_once [] back once = (tt, once)
    part_once (pair ∷ front) back once =
        let rest = part_once front back once.1 in ((AllByRecursion-append_left (λ (other : Pair). other.0 ≢ pair.0) front back once.0, rest.0), rest.1)

    class_once : (from count number : ℕ) → AreOnce (by_class from count) → from ≤ number → number < from + count → AreOnce (of_class number pairs)
    class_once from zero number once above below = absurd (omega (arith, above, below))
    class_once from (suc count) number once above below =
        let parts = part_once (of_class from pairs) (by_class (from + 1) count) once in
        elim (cases_eq number from) [
          | inl same ↦ subst (λ (number : ℕ). AreOnce (of_class number pairs)) (sym same) parts.0
          | inr differ ↦ class_once (from + 1) count number parts.1 (omega (arith, above, differ)) (omega (arith, below))
        ]

  -- what holds of those of a class and of the others holds of all
  all_of_classes : (P : Pair → Type 0) (number : ℕ) (pairs : List Pair) → AllByRecursion P (of_class number pairs) → ((pair : Pair) → (class pair.0 ≡ number → ⊥) → P pair) → AllByRecursion P pairs
  all_of_classes P number [] own others = tt
  all_of_classes P number (pair ∷ pairs) own others =
      let rest = of_class number pairs in
      elim (eqb_tells (class pair.0) number) [
        | inl same ↦ (let both = subst (λ (is : Bool). AllByRecursion P (cond is (pair ∷ rest) rest)) same.0 own in (both.0, all_of_classes P number pairs both.1 others))
        | inr other ↦ (let left = subst (λ (is : Bool). AllByRecursion P (cond is (pair ∷ rest) rest)) other.0 own in (others pair other.1, all_of_classes P number pairs left others))
      ]

  once_in_all : (pairs : List Pair) → ((number : ℕ) → AreOnce (of_class number pairs)) → AreOnce pairs
  once_in_all [] each = tt
  once_in_all (pair ∷ pairs) each =
      let fewer : (number : ℕ) → AreOnce (of_class number pairs) = λ number. (
      let rest = of_class number pairs in
      elim (eqb (class pair.0) number) as (λ (is : Bool). AreOnce (cond is (pair ∷ rest) rest) → AreOnce rest) [ true ↦ λ once. once.1 | false ↦ λ once. once ] (each number)
      ) in
      let own = of_class (class pair.0) pairs in
      elim (eqb_tells (class pair.0) (class pair.0)) [
        | inl same ↦
            (let once = subst (λ (is : Bool). AreOnce (cond is (pair ∷ own) own)) same.0 (each (class pair.0)) in (
              all_of_classes (λ other. other.0 ≢ pair.0) (class pair.0) pairs once.0 (λ other differ is. differ (ap class is)),
              once_in_all pairs fewer,
            ))
        | inr other ↦ absurd (other.1 refl)
      ]

  none_of_class : (pairs : List Pair) (count number : ℕ) → ((key : List ℕ) → class key < count) → count ≤ number → of_class number pairs ≡ []
  none_of_class [] count number below past = refl
  none_of_class (pair ∷ pairs) count number below past =
      let rest = of_class number pairs in
      elim (eqb_tells (class pair.0) number) [
        | inl same ↦ absurd (omega (arith, same.1, below pair.0, past))
        | inr other ↦ ap (λ (is : Bool). cond is (pair ∷ rest) rest) other.0 ∙ none_of_class pairs count number below past
      ]

  pub all_once : (pairs : List Pair) (count : ℕ) → ((key : List ℕ) → class key < count) → AreOnce (by_class pairs 0 count) → AreOnce pairs
  all_once pairs count below once = once_in_all pairs (λ number. elim (cases_lt number count) [
    | inl less ↦ class_once pairs 0 count number once (omega arith) (omega (arith, less))
    | inr past ↦ subst AreOnce (sym (none_of_class pairs count number below past)) tt
  ])
