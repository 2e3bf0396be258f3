-- What holds of each element of a list.
use Rattle.std.proofs.Common.{◌≡◌, ℕ, zero, suc, ◌<◌, List, [], ◌∷◌, length, take, drop, get_or, refl, ap, ◌∙◌, arith}
use Rattle.std.specs.List.{AllByRecursion}

-- of the first elements, and of the others, so of all
pub all_parts : {X : Type 0} (P : X → Type 0) (n : ℕ) (items : List X) → AllByRecursion P (take n items) → AllByRecursion P (drop n items) → AllByRecursion P items
all_parts P zero items first second = second
all_parts P (suc n) [] first second = tt
all_parts P (suc n) (x ∷ items) first second = (first.0, all_parts P n items first.1 second)

-- lists of one length that agree at each place are one
pub same_items : (one other : List ℕ) → length one ≡ length other → ((i : ℕ) → i < length one → get_or one i 0 ≡ get_or other i 0) → one ≡ other
same_items [] [] len agree = refl
same_items [] (y ∷ other) len agree = absurd (omega (arith, len))
same_items (x ∷ one) [] len agree = absurd (omega (arith, len))
same_items (x ∷ one) (y ∷ other) len agree =
    ap (λ (x : ℕ). x ∷ one) (agree 0 (omega arith)) ∙ ap (λ (rest : List ℕ). y ∷ rest) (same_items one other (omega (arith, len)) (λ i within. agree (suc i) (omega (arith, within))))
