-- Elements of lists, one by one.
use Rattle.std.proofs.Common.{◌≡◌, ℕ, ◌<◌, ◌≤◌, List, [], ◌∷◌, ◌++◌, length, slice_get, set, take, Some, sym, ap, ◌∙◌, arith}
use Rattle.std.proofs.lemmas.List.{length_push, get_or_append_left, get_or_push, length-set, get_or-set_same, length-take-le, get_or-take}
use Rattle.std.proofs.lemmas.Option.{slice_get-get_or}

-- one element more leaves those before it
pub slice_get-before_push : {X : Type 0} (xs : List X) (x : X) (i : ℕ) → i < length xs → slice_get (xs ++ x ∷ []) i ≡ slice_get xs i
slice_get-before_push xs x i within =
    slice_get-get_or (xs ++ x ∷ []) i x (omega (arith, length_push xs x)) ∙ ap Some (get_or_append_left xs (x ∷ []) x i within) ∙ sym (slice_get-get_or xs i x within)

pub slice_get-at_push : {X : Type 0} (xs : List X) (x : X) (i : ℕ) → length xs ≡ i → slice_get (xs ++ x ∷ []) i ≡ Some x
slice_get-at_push xs x i is = slice_get-get_or (xs ++ x ∷ []) i x (omega (arith, length_push xs x)) ∙ ap Some (get_or_push xs x x i is)

-- one element changed
pub slice_get-set_same : {X : Type 0} (xs : List X) (i : ℕ) (x : X) → i < length xs → slice_get (set xs i x) i ≡ Some x
slice_get-set_same xs i x within = slice_get-get_or (set xs i x) i x (omega (arith, length-set xs i x)) ∙ ap Some (get_or-set_same xs i x x within)

-- the front has the same elements
pub slice_get-take : {X : Type 0} (xs : List X) (n k : ℕ) (d : X) → k < n → n ≤ length xs → slice_get (take n xs) k ≡ slice_get xs k
slice_get-take xs n k d before within =
    slice_get-get_or (take n xs) k d (omega (arith, before, length-take-le n xs within)) ∙ ap Some (get_or-take n xs k d before) ∙ sym (slice_get-get_or xs k d (omega (arith, before, within)))
