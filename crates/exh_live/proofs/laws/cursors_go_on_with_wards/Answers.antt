use Rattle.std.proofs.Common.{◌≡◌, ◌+◌, ℕ, Bool, cond, List, [], ◌∷◌, refl, sym, ap, ◌∙◌, inl, inr, arith}
use Rattle.std.specs.FinMap.{entries}
use Rattle.std.specs.List.{sum_by, filter}
use Rattle.std.proofs.lemmas.Bool.{cases_Bool, cond-true, cond-false}
use Rattle.std.proofs.lemmas.List.Sums.{sum_by-cons}
use Rattle.exh_notice.specs.declared.entry.Entry.{Entry}
use Rattle.exh_table.specs.Table.{TableMap}
use Rattle.exh_live.specs.Rounds.{changes_told, is_of_ward}
use Rattle.exh_legal.specs.ChangeNumbers.{index_of}
use Rattle.exh_live.proofs.laws.cursors_go_on_with_wards.Goals as goal

-- a sum over those that pass a test
sum_of_passing : {X : Type 0} (test : X → Bool) (f : X → ℕ) (xs : List X) → sum_by (λ x. cond (test x) (f x) 0) xs ≡ sum_by f (filter test xs)
sum_of_passing test f [] = refl
sum_of_passing {X} test f (x ∷ xs) =
    let rest = sum_of_passing test f xs in
    let whole = sum_by-cons (λ y. cond (test y) (f y) 0) x xs in
    elim (cases_Bool (test x)) [
      | inl own ↦
          let here = cond-true (test x) (f x) 0 own in
          let kept : filter test (x ∷ xs) ≡ x ∷ filter test xs = cond-true (test x) (x ∷ filter test xs) (filter test xs) own in
          let sum : sum_by f (filter test (x ∷ xs)) ≡ f x + sum_by f (filter test xs) = ap (sum_by f) kept ∙ sum_by-cons f x (filter test xs) in
          omega (arith, rest, whole, here, sum)
      | inr other ↦
          let here = cond-false (test x) (f x) 0 other in
          let kept : filter test (x ∷ xs) ≡ filter test xs = cond-false (test x) (x ∷ filter test xs) (filter test xs) other in
          let sum : sum_by f (filter test (x ∷ xs)) ≡ sum_by f (filter test xs) = ap (sum_by f) kept in
          omega (arith, rest, whole, here, sum)
    ]

joined : (ward_bits number : ℕ) (table start : TableMap) → entries start ≡ filter (λ e. is_of_ward ward_bits number e.0) (entries table) → changes_told ward_bits table number ≡ index_of start
joined ward_bits number table start same =
    sum_of_passing (λ (e : List Bool × Entry). is_of_ward ward_bits number e.0) (λ (e : List Bool × Entry). e.1.number) (entries table)
    ∙ ap (sum_by (λ (e : List Bool × Entry). e.1.number)) (sym same)

pub returns : goal.returns
returns c ward_bits number table start same =
    let first = joined ward_bits number table start same in
    (first, λ notices are place notice at. (are place notice at).1 ∙ ap (λ n. n + (place + 1)) (sym first))
