-- How many elements of a list pass a test, where one is changed.
use Rattle.std.proofs.Common.{◌≡◌, ℕ, zero, suc, ◌+◌, ◌≤◌, ◌<◌, Bool, true, false, cond, List, [], ◌∷◌, length, filter, get_or, arith}
use Rattle.std.proofs.Math.ListN.{set}

pub length-filter_le : {X : Type 0} (p : X → Bool) (xs : List X) → length (filter p xs) ≤ length xs
length-filter_le p [] = omega arith
length-filter_le p (x ∷ xs) =
    elim (p x) as (λ passes. length (cond passes (x ∷ filter p xs) (filter p xs)) ≤ suc (length xs)) [
      | true ↦ omega (arith, length-filter_le p xs)
      | false ↦ omega (arith, length-filter_le p xs)
    ]

one_more : {X : Type 0} (passes : Bool) (x : X) (xs : List X) → length (cond passes (x ∷ xs) xs) ≡ length xs + cond passes 1 0
one_more true x xs = omega arith
one_more false x xs = omega arith

pub length-filter_set : {X : Type 0} (p : X → Bool) (xs : List X) (i : ℕ) (y d : X) → i < length xs
    → length (filter p (set xs i y)) + cond (p (get_or xs i d)) 1 0 ≡ length (filter p xs) + cond (p y) 1 0
length-filter_set p [] i y d within = absurd (omega arith)
length-filter_set p (x ∷ xs) zero y d within = omega (arith, one_more (p y) y (filter p xs), one_more (p x) x (filter p xs))
length-filter_set p (x ∷ xs) (suc i) y d within =
    omega (arith, one_more (p x) x (filter p (set xs i y)), one_more (p x) x (filter p xs), length-filter_set p xs i y d (omega arith))
