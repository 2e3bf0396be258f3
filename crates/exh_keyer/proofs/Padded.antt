-- A list that is filled up to n elements.
use Rattle.std.proofs.Common.{◌≡◌, ℕ, ◌+◌, ◌≤◌, ◌-◌, List, ◌++◌, length, take, drop, replicate, min, refl, ap, ◌∙◌, arith, append-nil, inl, inr}
use Rattle.std.proofs.Math.ListN.{drop_of_length-le}
use Rattle.std.proofs.Math.Seq.{take-length, take-append-add}
use Rattle.std.proofs.lemmas.Bool.{cases_lt}
use Rattle.std.proofs.lemmas.List.{take-append-le, take-replicate, drop-replicate, length-replicate}

-- the first n of a list and n fillers are as much of the list as there is, and then fillers
pub take-append-replicate : {X : Type 0} (n : ℕ) (xs : List X) (filler : X)
    → take n (xs ++ replicate n filler) ≡ take (min (length xs) n) xs ++ drop (min (length xs) n) (replicate n filler)
take-append-replicate {X} n xs filler =
    elim (cases_lt (length xs) n) [
      | inl short ↦
          let least : min (length xs) n ≡ length xs = omega arith in
          let whole : length xs + (n - length xs) ≡ n = omega arith in
          let few : n - length xs ≤ n = omega arith in
          let filled = take-append-add xs (replicate n filler) (n - length xs) ∙ ap (λ (rest : List X). xs ++ rest) (take-replicate (n - length xs) n filler few) in
          rw (least, take-length xs, drop-replicate (length xs) n filler) (rw whole at filled)
      | inr long ↦
          let least : min (length xs) n ≡ n = omega arith in
          let none : length (replicate n filler) ≤ n = omega (arith, length-replicate n filler) in
          rw (least, drop_of_length-le (replicate n filler) none, take-append-le n xs (replicate n filler) long, append-nil) refl
    ]
