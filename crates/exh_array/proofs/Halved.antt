-- An array that is halved: every other pointer is kept.
use Rattle.std.proofs.Common.{◌≡◌, ℕ, suc, ◌+◌, ◌*◌, ◌^◌, ◌<◌, ◌≤◌, Bool, true, false, cond, List, [], ◌∷◌, length, take, filter, get_or, slice_get, set, nat_eq, All, Some, refl, sym, ap, ◌∙◌, subst, arith, below_more}
use Rattle.std.proofs.Math.Nat.{pow-suc}
use Rattle.std.proofs.lemmas.Bool.{eqb-false}
use Rattle.std.proofs.lemmas.List.{length-take-le, length-set}
use Rattle.std.proofs.lemmas.List.Elements.{All-nil, All-cons}
use Rattle.std.proofs.lemmas.Option.{slice_get-get_or, slice_get_within, get_or_from_slice_get}
use Rattle.exh_prefix.specs.Bits.{word_bits}
use Rattle.exh_prefix.specs.Prefix.{low_of}
use Rattle.exh_table.specs.Table.{TableMap}
use Rattle.exh_table.specs.TableWalk.{walk_of}
use Rattle.exh_prefix.specs.Leading.{leading}
use Rattle.exh_prefix.specs.PrefixLemmas.{low_of-word, take-word-low_of}
use Rattle.exh_table.specs.DirectoryLemmas.{same_leaf}
use Rattle.exh_array.specs.declared.pointer.Pointer.{Pointer}
use Rattle.exh_array.specs.Pointers.{PointerArray, pointer_to}
use Rattle.exh_array.specs.Within.{is_deep, IsKept, HasLeavesOf}
use Rattle.exh_prefix.specs.LeadingLemmas.{length-leading_bits, leading-lt, leading-twice}
use Rattle.exh_prefix.specs.PrefixListLemmas.{set_else}
use Rattle.exh_array.proofs.Pieces.{slice_get-set_same, slice_get-take}
use Rattle.exh_array.proofs.Deeper.{deepened}

-- ---- in place

-- the first n are every other one of the pointers, and those behind them are as they were
pub record AreMoved (n : ℕ) (pointers made : List Pointer) : Type 0 where
  pub many : length made ≡ length pointers
  pub below : (k : ℕ) → k < n → slice_get made k ≡ slice_get pointers (2 * k)
  pub above : (k : ℕ) → n ≤ k → k < length pointers → slice_get made k ≡ slice_get pointers k

pub moved_none : (pointers : List Pointer) → AreMoved 0 pointers pointers
moved_none pointers = record { many = refl; below = λ k before. absurd (omega arith); above = λ k behind within. refl }

pub moved_more : (n : ℕ) (pointers made : List Pointer) (next : Pointer) → AreMoved n pointers made → 2 * n < length pointers → slice_get made (2 * n) ≡ Some next → AreMoved (n + 1) pointers (set made n next)
moved_more n pointers made next are within is = record {
  many = length-set made n next ∙ are.many;
  below = below_more _ n
      (λ k before. set_else made n k next (λ same. omega arith) ∙ are.below k before)
      (slice_get-set_same made n next (omega (arith, are.many)) ∙ sym is ∙ are.above (2 * n) (omega arith) within);
  above = λ k behind before. set_else made n k next (λ same. omega arith) ∙ are.above k (omega arith) before;
}

-- ---- cut off

-- every other one of the pointers
pub record AreEveryOther (half : ℕ) (pointers made : List Pointer) : Type 0 where
  pub many : length made ≡ half
  pub each : (k : ℕ) → k < half → slice_get made k ≡ slice_get pointers (2 * k)

pub moved_all : (half : ℕ) (pointers made : List Pointer) → AreMoved half pointers made → half ≤ length pointers → AreEveryOther half pointers (take half made)
moved_all half pointers made are within = record {
  many = length-take-le half made (omega (arith, are.many));
  each = λ k before. slice_get-take made half k (record { page = 0; local_depth = 0 }) before (omega (arith, are.many)) ∙ are.below k before;
}

-- ---- no pointer is as deep as the array

pub none_passes : {X : Type 0} (test : X → Bool) (xs : List X) → filter test xs ≡ [] → All (λ x. test x ≡ false) xs
none_passes test [] none = All-nil (λ x. test x ≡ false)
none_passes test (x ∷ xs) none =
    elim (test x) as (λ passes. test x ≡ passes → cond passes (x ∷ filter test xs) (filter test xs) ≡ [] → All (λ x. test x ≡ false) (x ∷ xs)) [
      | true ↦ λ is none. cc
      | false ↦ λ is none. All-cons (λ x. test x ≡ false) x xs is (none_passes test xs none)
    ] refl none

module _ (deepest : ℕ) (array : PointerArray) (kept : IsKept deepest array) (flat : filter (is_deep array.depth) array.pointers ≡ []) where
  shorter : (place : ℕ) (pointer : Pointer) → slice_get array.pointers place ≡ Some pointer → pointer.local_depth < array.depth
  shorter place pointer stands =
      let within : place < length array.pointers = slice_get_within array.pointers place pointer stands in
      let is : get_or array.pointers place pointer ≡ pointer = get_or_from_slice_get array.pointers place pointer pointer stands in
      let fits : pointer.local_depth ≤ array.depth = subst (λ (pointer : Pointer). pointer.local_depth ≤ array.depth) is (kept.within place pointer within) in
      let differs : nat_eq pointer.local_depth array.depth ≡ false = subst (λ (pointer : Pointer). is_deep array.depth pointer ≡ false) is (none_passes (is_deep array.depth) array.pointers flat place pointer within) in
      omega (arith, fits, eqb-false pointer.local_depth array.depth differs)

  module _ (depth : ℕ) (less : array.depth ≡ suc depth) (made : List Pointer) (are : AreEveryOther (2 ^ depth) array.pointers made) where
    pub halved_kept : IsKept (length (filter (is_deep depth) made)) (deepened array depth made)
    halved_kept = record {
      ward_bits = kept.ward_bits;
      limit = omega (arith, kept.limit, less);
      full = are.many;
      within = λ k d within.
          let place : 2 * k < length array.pointers = omega (arith, within, are.many, kept.full, ap (λ n. 2 ^ n) less, pow-suc 2 depth) in
          let stands : slice_get made k ≡ Some (get_or array.pointers (2 * k) d) = are.each k (omega (arith, within, are.many)) ∙ slice_get-get_or array.pointers (2 * k) d place in
          let short : (get_or array.pointers (2 * k) d).local_depth < array.depth = shorter (2 * k) (get_or array.pointers (2 * k) d) (slice_get-get_or array.pointers (2 * k) d place) in
          subst (λ (pointer : Pointer). pointer.local_depth ≤ depth) (sym (get_or_from_slice_get made k (get_or array.pointers (2 * k) d) d stands)) (omega (arith, short, less));
      counted = refl;
    }

    leaf_short : (table : TableMap) → HasLeavesOf table array → (pseudokey : ℕ) → pseudokey < 2 ^ 64 → length (walk_of table array.ward_bits pseudokey).prefix ≤ depth
    leaf_short table has pseudokey small = omega (arith, shorter (leading array.depth pseudokey) (pointer_to (walk_of table array.ward_bits pseudokey)) (has.each pseudokey small), less)

    pub halved_leaves : (table : TableMap) → HasLeavesOf table array → HasLeavesOf table (deepened array depth made)
    halved_leaves table has = record {
      deep = leaf_short table has;
      each = λ pseudokey small.
          let front = take depth (word_bits pseudokey) in
          let many : length front ≡ depth = length-leading_bits depth pseudokey (omega (arith, kept.limit, less)) in
          let first = low_of front in
          let first_small : first < 2 ^ 64 = low_of-word front (omega (arith, many, kept.limit, less)) in
          let twice : 2 * leading depth pseudokey ≡ leading array.depth first = sym (leading-twice depth pseudokey (omega (arith, kept.limit, less))) ∙ ap (λ n. leading n first) (sym less) in
          let same : walk_of table array.ward_bits first ≡ walk_of table array.ward_bits pseudokey =
          same_leaf table array.ward_bits kept.ward_bits depth pseudokey first (leaf_short table has pseudokey small) small (sym (take-word-low_of front depth many (omega (arith, kept.limit, less)))) in
          are.each (leading depth pseudokey) (leading-lt depth pseudokey (omega (arith, kept.limit, less)))
          ∙ ap (slice_get array.pointers) twice ∙ has.each first first_small ∙ ap (λ leaf. Some (pointer_to leaf)) same;
    }
