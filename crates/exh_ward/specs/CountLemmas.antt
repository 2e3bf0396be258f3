-- Counts over two tests that differ at one place, or nowhere.
use Rattle.std.proofs.Common.{◌≡◌, ℕ, zero, suc, ◌+◌, ◌≤◌, Bool, true, false, cond, List, [], ◌∷◌, slice_get, Some, refl, ap, ◌∙◌, arith}
use Rattle.std.specs.Prelude.{count_by}
use Rattle.std.proofs.lemmas.List.Sums.{sum_by-cons}

abbrev pub counts : Bool → ℕ
counts b = cond b 1 0

pub counts_few : (b : Bool) → counts b ≤ 1
counts_few true = omega arith
counts_few false = omega arith

module _ {A : Type 0} where
  pub count_cons : (p : A → Bool) (x : A) (xs : List A) → count_by p (x ∷ xs) ≡ counts (p x) + count_by p xs
  count_cons p x xs = sum_by-cons (λ x. cond (p x) 1 0) x xs

  pub count_same : (p q : A → Bool) (xs : List A) → ((place : ℕ) (x : A) → slice_get xs place ≡ Some x → p x ≡ q x) → count_by p xs ≡ count_by q xs
  count_same p q [] same = refl
  count_same p q (x ∷ xs) same =
      let first : counts (p x) ≡ counts (q x) = ap counts (same 0 x refl) in
      omega (arith, count_cons p x xs, count_cons q x xs, first, count_same p q xs (λ place. same (suc place)))

  pub count_none : (p : A → Bool) (xs : List A) → ((place : ℕ) (x : A) → slice_get xs place ≡ Some x → p x ≡ false) → count_by p xs ≡ 0
  count_none p [] none = refl
  count_none p (x ∷ xs) none =
      let first : counts (p x) ≡ 0 = ap counts (none 0 x refl) in
      omega (arith, count_cons p x xs, first, count_none p xs (λ place. none (suc place)))

  pub count_less : (p q : A → Bool) (xs : List A) → ((x : A) → counts (p x) ≤ counts (q x)) → count_by p xs ≤ count_by q xs
  count_less p q [] less = omega arith
  count_less p q (x ∷ xs) less = omega (arith, count_cons p x xs, count_cons q x xs, less x, count_less p q xs less)

  -- one more passes
  pub count_one_more : (p q : A → Bool) (xs : List A) (at : ℕ) (x : A) → slice_get xs at ≡ Some x → p x ≡ true → q x ≡ false
      → ((place : ℕ) (y : A) → slice_get xs place ≡ Some y → (place ≡ at → ⊥) → p y ≡ q y) → count_by p xs ≡ suc (count_by q xs)
  count_one_more p q [] at x is passes_p fails_q same = cc
  count_one_more p q (y ∷ xs) zero x is passes_p fails_q same =
      let here : y ≡ x = cc in
      let passes : counts (p y) ≡ 1 = ap counts (ap p here ∙ passes_p) in
      let fails : counts (q y) ≡ 0 = ap counts (ap q here ∙ fails_q) in
      omega (arith, count_cons p y xs, count_cons q y xs, passes, fails, count_same p q xs (λ place z is. same (suc place) z is (λ zero_is. omega (arith, zero_is))))
  count_one_more p q (y ∷ xs) (suc at) x is passes_p fails_q same =
      let first : counts (p y) ≡ counts (q y) = ap counts (same 0 y refl (λ one_is. omega (arith, one_is))) in
      omega (arith, count_cons p y xs, count_cons q y xs, first, count_one_more p q xs at x is passes_p fails_q (λ place z is differ. same (suc place) z is (λ both. differ (omega (arith, both)))))
