-- How many parts of the two ledgers of a file a ward has: they tell its number.
use Rattle.std.specs.Prelude.{ℕ, zero, suc, ◌+◌, ◌^◌, List, sum_by}
use Rattle.exh_ward.specs.WardState.{WardState}

-- of both ledgers together
abbrev pub ward_parts : ℕ
ward_parts = 16 ^ 15

-- of the ledger of entries, the ward of this number; the rest of them are of the ledger of answers
abbrev pub parts_of_number : ℕ → ℕ
parts_of_number number = 16 ^ number

-- the first so many wards
abbrev pub parts_of_first : ℕ → ℕ
parts_of_first zero = 0
parts_of_first (suc count) = parts_of_first count + parts_of_number count

-- these wards
abbrev pub parts_of_wards : {K : Type 0} → List (WardState K) → ℕ
parts_of_wards wards = sum_by (λ ward. parts_of_number ward.number) wards
