-- Sixteen wards or fewer that have as many parts of the ledger of entries as the first so many stand, once their numbers rise, at the places of their numbers.
use Rattle.std.proofs.Common.{◌≡◌, ℕ, zero, suc, ◌+◌, ◌*◌, ◌<◌, ◌≤◌, List, length, get_or, take, inl, inr, sym, ap, ◌∙◌, subst, arith}
use Rattle.std.specs.Prelude.{sum_by, All}
use Rattle.std.specs.List.Sorted.{IsNonDecreasingBy}
use Rattle.std.proofs.Math.Nat.{pow-le-pow_right, mul-le-mul_right, one-le-pow}
use Rattle.std.proofs.lemmas.Bool.{cases_lt}
use Rattle.std.proofs.lemmas.Grind.{pow_more}
use Rattle.std.proofs.lemmas.List.{get_or-take, get_or_default, length-take-le, take_all, take_more}
use Rattle.std.proofs.lemmas.List.Sums.{sum_by-le, sum_by_push}
use Rattle.std.proofs.lemmas.Option.{get_or_from_slice_get, slice_get_within}
use Rattle.exh_ward.specs.WardState.{WardState}
use Rattle.exh_live.specs.Closing.{AreInOrder}
use Rattle.exh_live.specs.WardParts.{parts_of_first, parts_of_number, parts_of_wards, ward_parts}

one_more : (number : ℕ) → number + 1 ≡ suc number
one_more number = omega arith

next_parts : (number : ℕ) → parts_of_number (suc number) ≡ parts_of_number number * 16
next_parts number = subst (λ m. parts_of_number m ≡ parts_of_number number * 16) (one_more number) (pow_more 16 number)

pub some_parts : (number : ℕ) → 1 ≤ parts_of_number number
some_parts number = one-le-pow number 16 (omega arith)

-- of at most sixteen wards each has at most as many as all its parts
pub parts_within : (number : ℕ) → number < 16 → parts_of_number number ≤ ward_parts
parts_within number below = pow-le-pow_right {n = 16} (omega arith) {i = number} {j = 15} (omega (arith, below))

-- as many or fewer parts have no greater number
more_parts : (one other : ℕ) → one ≤ other → parts_of_number one ≤ parts_of_number other
more_parts one other below = pow-le-pow_right (omega arith) below

pub first_more : (count : ℕ) → parts_of_first (count + 1) ≡ parts_of_first count + parts_of_number count
first_more count = ap parts_of_first (one_more count)

first_are_fewer : (count : ℕ) → parts_of_first count < parts_of_number count
first_are_fewer zero = omega (arith, some_parts 0)
first_are_fewer (suc count) = omega (arith, first_are_fewer count, next_parts count)

some_first : (count : ℕ) → 0 < count → 1 ≤ parts_of_first count
some_first zero some = absurd (omega (arith, some))
some_first (suc count) some = omega (arith, some_parts count)

-- so many wards from a number on have no more parts of the ledger of entries than all theirs
pub rest_within : (left count : ℕ) → left + count ≤ 16 → parts_of_first (left + count) ≤ parts_of_first count + left * ward_parts
rest_within zero count few =
    let here : zero + count ≡ count = omega arith in
    omega (arith, ap parts_of_first here)
rest_within (suc left) count few =
    let next : suc left + count ≡ suc (left + count) = omega arith in
    let before = rest_within left count (omega (arith, few)) in
    let last = parts_within (left + count) (omega (arith, few)) in
    omega (arith, ap parts_of_first next, before, last)

-- more wards have no fewer
pub first_rises : (left count : ℕ) → parts_of_first count ≤ parts_of_first (left + count)
first_rises zero count =
    let here : zero + count ≡ count = omega arith in
    omega (arith, ap parts_of_first here)
first_rises (suc left) count =
    let next : suc left + count ≡ suc (left + count) = omega arith in
    omega (arith, ap parts_of_first next, first_rises left count)

module _ {X : Type 0} (n : X → ℕ) (xs : List X) (rising : IsNonDecreasingBy n xs) where
  abbrev parts : X → ℕ
  parts x = parts_of_number (n x)

  -- none of those up to a place has more than the one there
  at_most : (count : ℕ) (d : X) → count < length xs → sum_by parts (take (count + 1) xs) ≤ (count + 1) * parts (get_or xs count d)
  at_most count d within =
      let last = get_or xs count d in
      let so_many = length-take-le (count + 1) xs (omega (arith, within)) in
      let each : All (λ x. parts x ≤ parts last) (take (count + 1) xs) = λ k e less.
      let before : k < count + 1 = omega (arith, less, so_many) in
      let here = get_or-take (count + 1) xs k e before in
      let there = get_or_default xs count e d within in
      let rises = rising k count e (omega (arith, before)) within in
      more_parts (n (get_or (take (count + 1) xs) k e)) (n last) (omega (arith, rises, ap n here, ap n there)) in
      subst (λ m. sum_by parts (take (count + 1) xs) ≤ m * parts last) so_many (sum_by-le parts (parts last) (take (count + 1) xs) each)

  in_place : (count : ℕ) → count ≤ length xs → count ≤ 16 → sum_by parts (take count xs) ≡ parts_of_first count → (k : ℕ) (d : X) → k < count → n (get_or xs k d) ≡ k
  in_place zero within few all k d less = absurd (omega (arith, less))
  in_place (suc count) within few all k d less =
      let last = get_or xs count d in
      let there : count < length xs = omega (arith, within) in
      let whole : sum_by parts (take (count + 1) xs) ≡ parts_of_first (suc count) = ap (λ m. sum_by parts (take m xs)) (one_more count) ∙ all in
      let split : sum_by parts (take (count + 1) xs) ≡ sum_by parts (take count xs) + parts last = ap (sum_by parts) (take_more xs count d there) ∙ sum_by_push parts (take count xs) last in
      let most = at_most count d there in
      let sixteen : (count + 1) * parts last ≤ 16 * parts last = mul-le-mul_right (parts last) (omega (arith, few)) in
      let some = some_parts (n last) in
      let next = next_parts (n last) in
      let here : n last ≡ count = elim (cases_lt (n last) count) [
        | inl below ↦
            let more = more_parts (suc (n last)) count (omega (arith, below)) in
            let first = some_first count (omega (arith, below)) in
            absurd (omega (arith, whole, most, sixteen, some, next, more, first))
        | inr not_below ↦ elim (cases_lt count (n last)) [
          | inl above ↦
              let more = more_parts (suc count) (n last) (omega (arith, above)) in
              let fewer = first_are_fewer (suc count) in
              absurd (omega (arith, whole, split, more, fewer))
          | inr not_above ↦ omega (arith, not_below, not_above)
        ]
      ] in
      let before : sum_by parts (take count xs) ≡ parts_of_first count = omega (arith, split, whole, ap parts_of_number here) in
      elim (cases_lt k count) [
        | inl earlier ↦ in_place count (omega (arith, within)) (omega (arith, few)) before k d earlier
        | inr past ↦
            let is : k ≡ count = omega (arith, less, past) in
            ap (λ place. n (get_or xs place d)) is ∙ here ∙ sym is
      ]

pub all_in_order : {K : Type 0} (wards : List (WardState K)) → IsNonDecreasingBy (λ (ward : WardState K). ward.number) wards → length wards ≤ 16 → parts_of_wards wards ≡ parts_of_first (length wards) → AreInOrder wards
all_in_order {K} wards rising few all number ward at =
    let number_of : WardState K → ℕ = λ one. one.number in
    let within = slice_get_within wards number ward at in
    let whole = ap (sum_by (λ (one : WardState K). parts_of_number one.number)) (take_all (length wards) wards (omega arith)) ∙ all in
    sym (ap number_of (get_or_from_slice_get wards number ward ward at)) ∙ in_place number_of wards rising (length wards) (omega arith) few whole number ward within
