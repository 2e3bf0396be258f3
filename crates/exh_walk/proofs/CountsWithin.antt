-- What passes a test in one list is counted in another.
use Rattle.std.proofs.Common.{◌≡◌, ◌≢◌, ℕ, zero, suc, ◌≤◌, Bool, true, List, [], ◌∷◌, slice_get, Some, inl, inr, refl, ap, ◌∙◌, arith}
use Rattle.std.specs.Prelude.{count_by}
use Rattle.std.proofs.lemmas.Bool.{cases_Bool, false_from_ne_true}
use Rattle.exh_ward.specs.CountLemmas.{counts, counts_few, count_cons, count_none}

module _ {A : Type 0} (p q : A → Bool) where
  -- at the place of what passes in the other list there is something that passes
  abbrev pub Passes : List A → List A → ℕ → Type 0
  Passes xs ys place = (y : A) → slice_get ys place ≡ Some y → p y ≡ true → (x : A) × (slice_get xs place ≡ Some x) × (q x ≡ true)

  first_within : (x y : A) → ((z : A) → y ≡ z → p z ≡ true → q x ≡ true) → counts (p y) ≤ counts (q x)
  first_within x y passes = elim (cases_Bool (p y)) [
    | inl passed ↦ omega (arith, ap counts passed, ap counts (passes y refl passed))
    | inr failed ↦ omega (arith, ap counts failed)
  ]

  none_of : (ys : List A) → ((place : ℕ) → Passes [] ys place) → count_by p ys ≡ 0
  none_of ys passes = count_none p ys (λ place y is. false_from_ne_true (p y) (λ passed. let found = passes place y is passed in let none = found.1 in cc))

  head_fails : (y : A) (ys : List A) → Passes [] (y ∷ ys) 0 → counts (p y) ≡ 0
  head_fails y ys passes = ap counts (false_from_ne_true (p y) (λ passed. let found = passes y refl passed in let none = found.1 in cc))

  head_passes : (x y : A) (xs ys : List A) → Passes (x ∷ xs) (y ∷ ys) 0 → counts (p y) ≤ counts (q x)
  head_passes x y xs ys passes =
      first_within x y (λ z same passed.
      let found = passes z (ap Some same) passed in
      let here : x ≡ found.0 = let is = found.1 in cc in
      ap q here ∙ found.2)

  pub count_within : (xs ys : List A) → ((place : ℕ) → Passes xs ys place) → count_by p ys ≤ count_by q xs
  count_within xs [] passes = omega arith
  count_within [] (y ∷ ys) passes = omega (arith, none_of (y ∷ ys) passes)
  count_within (x ∷ xs) (y ∷ ys) passes =
      omega (arith, count_cons p y ys, count_cons q x xs, head_passes x y xs ys (passes 0), count_within xs ys (λ place. passes (suc place)))

  -- but for one place
  pub count_within_but : (xs ys : List A) (one : ℕ) → ((place : ℕ) → place ≢ one → Passes xs ys place) → count_by p ys ≤ suc (count_by q xs)
  count_within_but xs [] one passes = omega arith
  count_within_but [] (y ∷ ys) zero passes =
      omega (arith, count_cons p y ys, counts_few (p y), count_within [] ys (λ place z is passed. passes (suc place) (λ same. omega (arith, same)) z is passed))
  count_within_but [] (y ∷ ys) (suc one) passes =
      omega (
        arith,
        count_cons p y ys,
        head_fails y ys (passes 0 (λ same. omega (arith, same))),
        count_within_but [] ys one (λ place differs z is passed.
            let found = passes (suc place) (λ same. differs (omega (arith, same))) z is passed in
            let none = found.1 in
            cc),
      )
  count_within_but (x ∷ xs) (y ∷ ys) zero passes =
      omega (arith, count_cons p y ys, count_cons q x xs, counts_few (p y), count_within xs ys (λ place. passes (suc place) (λ same. omega (arith, same))))
  count_within_but (x ∷ xs) (y ∷ ys) (suc one) passes =
      omega (
        arith,
        count_cons p y ys,
        count_cons q x xs,
        head_passes x y xs ys (passes 0 (λ same. omega (arith, same))),
        count_within_but xs ys one (λ place differs. passes (suc place) (λ same. differs (omega (arith, same)))),
      )
