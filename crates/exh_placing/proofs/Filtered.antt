-- Elements of a list that pass a test, and how many of them stand before each.
use Rattle.std.proofs.Common.{◌≡◌, ◌⊎◌, ℕ, zero, suc, ◌+◌, ◌<◌, Bool, true, false, cond, List, [], ◌∷◌, map, take, Some, refl, sym, ap, ◌∙◌, subst, inl, inr, arith}
use Rattle.std.specs.List.{count_by, filter, slice_get}
use Rattle.std.proofs.lemmas.List.Sums.{sum_by-cons}

yes_or_no : (test : Bool) → (test ≡ true) ⊎ (test ≡ false)
yes_or_no true = inl refl
yes_or_no false = inr refl

abbrev one_if : Bool → ℕ
one_if test = cond test 1 0

module _ {A : Type 0} (p : A → Bool) where
  counted_yes : (x : A) (xs : List A) → p x ≡ true → count_by p (x ∷ xs) ≡ suc (count_by p xs)
  counted_yes x xs passing =
      let one = sum_by-cons (λ x. one_if (p x)) x xs in
      let is : one_if (p x) ≡ 1 = ap one_if passing in
      omega (arith, one, is)

  counted_no : (x : A) (xs : List A) → p x ≡ false → count_by p (x ∷ xs) ≡ count_by p xs
  counted_no x xs failing =
      let one = sum_by-cons (λ x. one_if (p x)) x xs in
      let is : one_if (p x) ≡ 0 = ap one_if failing in
      omega (arith, one, is)

  kept : (x : A) (xs : List A) → p x ≡ true → filter p (x ∷ xs) ≡ x ∷ filter p xs
  kept x xs passing = ap (λ (b : Bool). cond b (x ∷ filter p xs) (filter p xs)) passing

  left_out : (x : A) (xs : List A) → p x ≡ false → filter p (x ∷ xs) ≡ filter p xs
  left_out x xs failing = ap (λ (b : Bool). cond b (x ∷ filter p xs) (filter p xs)) failing

  -- the element at a place passes, and so many before it
  pub record StandsBehind (xs : List A) (count : ℕ) (x : A) : Type 0 where
    pub place : ℕ
    pub there : slice_get xs place ≡ Some x
    pub passes : p x ≡ true
    pub counted : count_by p (take place xs) ≡ count

  pub filtered_from : (xs : List A) (count : ℕ) (x : A) → slice_get (filter p xs) count ≡ Some x → StandsBehind xs count x
  filtered_from [] count x is = cc
  filtered_from (y ∷ xs) zero x is = elim (yes_or_no (p y)) [
    | inl passing ↦
        let here : Some y ≡ Some x = ap (λ (l : List A). slice_get l 0) (sym (kept y xs passing)) ∙ is in
        let same : y ≡ x = cc in
        record { place = 0; there = here; passes = subst (λ (x : A). p x ≡ true) same passing; counted = refl }
    | inr failing ↦
        let rest = filtered_from xs zero x (ap (λ (l : List A). slice_get l 0) (sym (left_out y xs failing)) ∙ is) in
        record { place = suc rest.place; there = rest.there; passes = rest.passes; counted = counted_no y (take rest.place xs) failing ∙ rest.counted }
  ]
  filtered_from (y ∷ xs) (suc count) x is = elim (yes_or_no (p y)) [
    | inl passing ↦
        let rest = filtered_from xs count x (ap (λ (l : List A). slice_get l (suc count)) (sym (kept y xs passing)) ∙ is) in
        record { place = suc rest.place; there = rest.there; passes = rest.passes; counted = counted_yes y (take rest.place xs) passing ∙ ap (λ (n : ℕ). suc n) rest.counted }
    | inr failing ↦
        let rest = filtered_from xs (suc count) x (ap (λ (l : List A). slice_get l (suc count)) (sym (left_out y xs failing)) ∙ is) in
        record { place = suc rest.place; there = rest.there; passes = rest.passes; counted = counted_no y (take rest.place xs) failing ∙ rest.counted }
  ]

  pub filtered_to : (xs : List A) (place : ℕ) (x : A) → slice_get xs place ≡ Some x → p x ≡ true → slice_get (filter p xs) (count_by p (take place xs)) ≡ Some x
  filtered_to [] place x is passes = cc
  filtered_to (y ∷ xs) zero x is passes =
      let same : y ≡ x = cc in
      ap (λ (l : List A). slice_get l 0) (kept y xs (subst (λ (y : A). p y ≡ true) (sym same) passes)) ∙ is
  filtered_to (y ∷ xs) (suc place) x is passes = elim (yes_or_no (p y)) [
    | inl passing ↦
        ap (λ (l : List A). slice_get l (count_by p (y ∷ take place xs))) (kept y xs passing) ∙ ap (slice_get (y ∷ filter p xs)) (counted_yes y (take place xs) passing) ∙ filtered_to xs place x is passes
    | inr failing ↦ ap (λ (l : List A). slice_get l (count_by p (y ∷ take place xs))) (left_out y xs failing) ∙ ap (slice_get (filter p xs)) (counted_no y (take place xs) failing) ∙ filtered_to xs place x is passes
  ]

  -- behind an element that passes there is one more than before it
  pub counted_less : (xs : List A) (place other : ℕ) (x : A) → place < other → slice_get xs place ≡ Some x → p x ≡ true → count_by p (take place xs) < count_by p (take other xs)
  counted_less xs place zero x less is passes = absurd (omega (arith, less))
  counted_less [] place (suc other) x less is passes = cc
  counted_less (y ∷ xs) zero (suc other) x less is passes =
      let same : y ≡ x = cc in
      let more = counted_yes y (take other xs) (subst (λ (y : A). p y ≡ true) (sym same) passes) in
      let none : count_by p [] ≡ 0 = refl in
      omega (arith, more, none)
  counted_less (y ∷ xs) (suc place) (suc other) x less is passes =
      let rest = counted_less xs place other x (omega (arith, less)) is passes in
      elim (yes_or_no (p y)) [
        | inl passing ↦ omega (arith, rest, counted_yes y (take place xs) passing, counted_yes y (take other xs) passing)
        | inr failing ↦ omega (arith, rest, counted_no y (take place xs) failing, counted_no y (take other xs) failing)
      ]

  pub counted_none : (xs : List A) → ((i : ℕ) (x : A) → slice_get xs i ≡ Some x → p x ≡ false) → count_by p xs ≡ 0
  counted_none [] each = refl
  counted_none (x ∷ xs) each = counted_no x xs (each 0 x refl) ∙ counted_none xs (λ i. each (suc i))

-- a count of what elements show
pub counted_map : {A B : Type 0} (f : A → B) (p : B → Bool) (xs : List A) → count_by p (map f xs) ≡ count_by (λ x. p (f x)) xs
counted_map f p [] = refl
counted_map {A} {B} f p (x ∷ xs) =
    sum_by-cons (λ (y : B). one_if (p y)) (f x) (map f xs) ∙ ap (λ (n : ℕ). one_if (p (f x)) + n) (counted_map f p xs) ∙ sym (sum_by-cons (λ (x : A). one_if (p (f x))) x xs)
