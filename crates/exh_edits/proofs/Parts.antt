-- Parts of lists of which an element is another, or that have an element more; and what holds of each of their elements.
use Rattle.std.proofs.Common.{◌≡◌, ℕ, zero, suc, ◌+◌, ◌-◌, ◌<◌, ◌≤◌, ◌⊎◌, inl, inr, List, [], ◌∷◌, ◌++◌, length, get_or, set, take, drop, slice_get, slice_index, slice_set, Some, ap, ◌∙◌, arith}
use Rattle.std.specs.List.{AllByRecursion, sum}
use Rattle.std.proofs.lemmas.List.{drop-append-le, drop-set-add, drop-set-lt, get_or-set_same, length-drop, length-set, take-append-le, take-set-le}
use Rattle.std.proofs.lemmas.List.Sums.{sum_by-set}
use Rattle.std.proofs.lemmas.Option.{slice_get-get_or}

module _ {X : Type 0} where
  -- a part before or behind the element
  pub part_set : (count from : ℕ) (xs : List X) (i : ℕ) (x : X) → (i < from) ⊎ (from + count ≤ i) → take count (drop from (slice_set xs i x)) ≡ take count (drop from xs)
  part_set count from xs i x (inl less) = ap (take count) (drop-set-lt from xs i x less)
  part_set count from xs i x (inr more) =
      let is : i ≡ from + (i - from) = omega (arith, more) in
      ap (λ (i : ℕ). take count (drop from (set xs i x))) is ∙ ap (take count) (drop-set-add from xs (i - from) x) ∙ take-set-le count (drop from xs) (i - from) x (omega (arith, more))

  pub part_push : (count from : ℕ) (xs ys : List X) → from + count ≤ length xs → take count (drop from (xs ++ ys)) ≡ take count (drop from xs)
  part_push count from xs ys within = ap (take count) (drop-append-le from xs ys (omega (arith, within))) ∙ take-append-le count (drop from xs) ys (omega (arith, within, length-drop from xs))

  pub there_set : (xs : List X) (i : ℕ) (x : X) → i < length xs → slice_get (slice_set xs i x) i ≡ Some x
  there_set xs i x within = slice_get-get_or (set xs i x) i x (omega (arith, within, length-set xs i x)) ∙ ap Some (get_or-set_same xs i x x within)

  module _ (P : X → Type 0) where
    pub all_set : (xs : List X) (i : ℕ) (x : X) → P x → AllByRecursion P xs → AllByRecursion P (slice_set xs i x)
    all_set [] i x holds all = tt
    all_set (y ∷ xs) zero x holds all = (holds, all.1)
    all_set (y ∷ xs) (suc i) x holds all = (all.0, all_set xs i x holds all.1)

    pub all_take : (n : ℕ) (xs : List X) → AllByRecursion P xs → AllByRecursion P (take n xs)
    all_take zero xs all = tt
    all_take (suc n) [] all = tt
    all_take (suc n) (x ∷ xs) all = (all.0, all_take n xs all.1)

    pub all_drop : (n : ℕ) (xs : List X) → AllByRecursion P xs → AllByRecursion P (drop n xs)
    all_drop zero xs all = all
    all_drop (suc n) [] all = tt
    all_drop (suc n) (x ∷ xs) all = all_drop n xs all.1

pub one_more : (counts : List ℕ) (i : ℕ) → i < length counts → sum (slice_set counts i (slice_index counts i + 1)) ≡ sum counts + 1
one_more counts i within = omega (arith, sum_by-set (λ (count : ℕ). count) counts i (get_or counts i 0 + 1) 0 within)
