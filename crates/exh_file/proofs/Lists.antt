-- Lists that are gone through one by one.
use Rattle.std.proofs.Common.{◌≡◌, ℕ, zero, suc, ◌+◌, List, [], ◌∷◌, ◌++◌, length, map, take, drop, set, replicate, slice_get, Some, refl, sym, ap, ◌∙◌, subst, arith}
use Rattle.std.specs.List.{AllByRecursion, sum_by}
use Rattle.std.proofs.lemmas.List.{take-append-drop, take_more}
use Rattle.std.proofs.lemmas.List.Sums.{sum_by-cons}
use Rattle.std.proofs.lemmas.Option.{get_or_from_slice_get, slice_get_within}
use Rattle.exh_prefix.specs.PrefixListLemmas.{AllByRecursion-append}

-- ---- one more of what was taken

module _ {A B : Type 0} (F : List A → List B) (joins : (front back : List A) → F (front ++ back) ≡ F front ++ F back) (xs : List A) (at : ℕ) (x : A) (is : slice_get xs at ≡ Some x) (y : List B) (one : F (x ∷ []) ≡ y) where
  taken_next : take (at + 1) xs ≡ take at xs ++ x ∷ []
  taken_next = take_more xs at x (slice_get_within xs at x is) ∙ ap (λ (one : A). take at xs ++ one ∷ []) (get_or_from_slice_get xs at x x is)

  pub next_is : F (take (at + 1) xs) ≡ F (take at xs) ++ y
  next_is = ap F taken_next ∙ joins (take at xs) (x ∷ []) ∙ ap (λ (l : List B). F (take at xs) ++ l) one

  pub whole_is : (F (take at xs) ++ y) ++ F (drop (at + 1) xs) ≡ F xs
  whole_is =
      ap (λ (l : List B). l ++ F (drop (at + 1) xs)) (sym next_is)
      ∙ sym (joins (take (at + 1) xs) (drop (at + 1) xs))
      ∙ ap F (take-append-drop (at + 1) xs)

  pub next_all : (P : B → Type 0) → AllByRecursion P (F (take at xs)) → AllByRecursion P y → AllByRecursion P (F (take (at + 1) xs))
  next_all P front here = subst (AllByRecursion P) (sym next_is) (AllByRecursion-append P (F (take at xs)) y front here)

-- ---- one that is put back

module _ {A : Type 0} (f : A → ℕ) where
  pub sum_of-set : (xs : List A) (at : ℕ) (old new : A) → slice_get xs at ≡ Some old → sum_by f (set xs at new) + f old ≡ sum_by f xs + f new
  sum_of-set [] at old new is = cc
  sum_of-set (first ∷ xs) zero old new is =
      let same : first ≡ old = cc in
      omega (arith, sum_by-cons f new xs, sum_by-cons f first xs, ap f same)
  sum_of-set (first ∷ xs) (suc at) old new is =
      omega (arith, sum_by-cons f first xs, sum_by-cons f first (set xs at new), sum_of-set xs at old new is)

-- ---- zeros up to a length

pub set_zero : (numbers : List ℕ) (more number : ℕ) → set (numbers ++ replicate (suc more) 0) (length numbers) number ≡ (numbers ++ number ∷ []) ++ replicate more 0
set_zero [] more number = refl
set_zero (first ∷ numbers) more number = ap (λ (l : List ℕ). first ∷ l) (set_zero numbers more number)

-- ---- of what a list was made

pub there_in : {A B : Type 0} (f : A → B) (xs : List A) (at : ℕ) (y : B) → slice_get (map f xs) at ≡ Some y → (x : A) × (slice_get xs at ≡ Some x) × (f x ≡ y)
there_in f [] at y is = cc
there_in f (first ∷ xs) zero y is = (first, refl, (let same : f first ≡ y = cc in same))
there_in f (first ∷ xs) (suc at) y is = there_in f xs at y is
