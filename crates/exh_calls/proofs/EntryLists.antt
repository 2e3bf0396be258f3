-- How many entries diaries and journals have.
use Rattle.std.proofs.Common.{◌≡◌, ◌≢◌, ◌==◌, ℕ, zero, suc, Bool, true, false, cond, ◌<◌, ◌+◌, inl, inr, List, [], ◌∷◌, length, get_or, refl, sym, ap, ◌∙◌, arith}
use Rattle.std.specs.Prelude.{All, filter, sum_by}
use Rattle.std.proofs.lemmas.Bool.{cases_Bool, cond-true, cond-false, eq-eqb, ne_eqb}
use Rattle.std.proofs.lemmas.List.Elements.{All-head, All-tail}
use Rattle.std.proofs.lemmas.List.Sums.{sum_by-cons}
use Rattle.exh_calls.specs.Call.{key_of}
use Rattle.exh_calls.specs.declared.journal_entry.JournalEntry.{JournalEntry}
use Rattle.exh_calls.specs.declared.diary_entry.DiaryEntry.{DiaryEntry}
use Rattle.exh_calls.specs.Diary.{DiaryState}
use Rattle.exh_calls.specs.Settled.{AreApart, IsOfOne, IsSameIn, IsSettled, answer_count, in_ward, journal_at, of_caller}
use Rattle.exh_calls.proofs.Splits.{of_caller-own, of_caller-other}
use Rattle.exh_calls.proofs.Totals.{once, sum_by-none, sum_by-plus, sum_by-same, sum_by-sum_by, sum_by-total, total, total-none, total-once, total-plus, total-same}
use Rattle.exh_calls.proofs.Wards.{all_within}

-- ---- of one diary, over all wards

longer : (ward_of : List ℕ → ℕ) (entry : DiaryEntry) (entries : List DiaryEntry) (number : ℕ) → length (in_ward ward_of number (entry ∷ entries)) ≡ once (ward_of (key_of entry.call)) number + length (in_ward ward_of number entries)
longer ward_of entry entries number =
    let test : DiaryEntry → Bool = λ other. ward_of (key_of other.call) == number in
    elim (test entry) as (λ b. length (cond b (entry ∷ filter test entries) (filter test entries)) ≡ cond b 1 0 + length (filter test entries)) [ true ↦ omega arith | false ↦ omega arith ]

pub by_wards : (ward_of : List ℕ → ℕ) (limit : ℕ) (entries : List DiaryEntry) → All (λ (entry : DiaryEntry). ward_of (key_of entry.call) < limit) entries → total limit (λ number. length (in_ward ward_of number entries)) ≡ length entries
by_wards ward_of limit [] within = total-none limit (λ number. 0) (λ number. refl)
by_wards ward_of limit (entry ∷ entries) within =
    let P : DiaryEntry → Type 0 = λ other. ward_of (key_of other.call) < limit in
    let ward = ward_of (key_of entry.call) in
    let rest = by_wards ward_of limit entries (All-tail P entry entries within) in
    let here = total-once limit ward (All-head P entry entries within) in
    omega (arith, total-same limit (λ number. length (in_ward ward_of number (entry ∷ entries))) (λ number. once ward number + length (in_ward ward_of number entries)) (longer ward_of entry entries), total-plus limit (once ward) (λ number. length (in_ward ward_of number entries)), rest, here)

-- ---- of one journal, over all diaries

one_longer : (entry : JournalEntry) (journal : List JournalEntry) (diary : DiaryState) → length (of_caller diary.client (entry ∷ journal)) ≡ once entry.client diary.client + length (of_caller diary.client journal)
one_longer entry journal diary = elim (cases_Bool (entry.client == diary.client)) [
  | inl own ↦ omega (arith, ap length (of_caller-own diary.client entry journal own), cond-true {A = ℕ} (entry.client == diary.client) 1 0 own)
  | inr other ↦ omega (arith, ap length (of_caller-other diary.client entry journal other), cond-false {A = ℕ} (entry.client == diary.client) 1 0 other)
]

-- a caller is one of different callers just once
each_once : (client : ℕ) (diaries : List DiaryState) → AreApart diaries → IsOfOne diaries client → sum_by (λ (diary : DiaryState). once client diary.client) diaries ≡ 1
each_once client [] apart (k, other, less, found, same) = absurd (omega (arith, less))
each_once client (diary ∷ diaries) apart (zero, other, less, found, same) =
    let is : client ≡ diary.client = sym (ap (λ (d : DiaryState). d.client) found ∙ same) in
    let rest = sum_by-none (λ (other : DiaryState). once client other.client) diaries (λ k d within. cond-false {A = ℕ} (client == (get_or diaries k d).client) 1 0 (ne_eqb client (get_or diaries k d).client (λ twice. apart 0 (suc k) d (omega arith) (omega (arith, within)) (sym is ∙ twice)))) in
    omega (arith, sum_by-cons (λ (d : DiaryState). once client d.client) diary diaries, cond-true {A = ℕ} (client == diary.client) 1 0 (eq-eqb client diary.client is), rest)
each_once client (diary ∷ diaries) apart (suc k, other, less, found, same) =
    let later : diary.client ≢ client = λ is. apart 0 (suc k) other (omega arith) less (is ∙ sym (ap (λ (d : DiaryState). d.client) found ∙ same)) in
    let rest = each_once client diaries (λ i j d before within. apart (suc i) (suc j) d (omega (arith, before)) (omega (arith, within))) (k, other, omega (arith, less), found, same) in
    omega (arith, sum_by-cons (λ (d : DiaryState). once client d.client) diary diaries, cond-false {A = ℕ} (client == diary.client) 1 0 (ne_eqb client diary.client (λ is. later (sym is))), rest)

pub by_callers : (diaries : List DiaryState) (journal : List JournalEntry) → AreApart diaries → All (λ (entry : JournalEntry). IsOfOne diaries entry.client) journal
    → sum_by (λ (diary : DiaryState). length (of_caller diary.client journal)) diaries ≡ length journal
by_callers diaries [] apart known = sum_by-none (λ (diary : DiaryState). 0) diaries (λ k d within. refl)
by_callers diaries (entry ∷ journal) apart known =
    let P : JournalEntry → Type 0 = λ other. IsOfOne diaries other.client in
    omega (
      arith,
      sum_by-same (λ (diary : DiaryState). length (of_caller diary.client (entry ∷ journal))) (λ (diary : DiaryState). once entry.client diary.client + length (of_caller diary.client journal)) diaries (one_longer entry journal),
      sum_by-plus (λ (diary : DiaryState). once entry.client diary.client) (λ (diary : DiaryState). length (of_caller diary.client journal)) diaries,
      each_once entry.client diaries apart (All-head P entry journal known),
      by_callers diaries journal apart (All-tail P entry journal known),
    )

-- ---- together

sum_by-all : {X : Type 0} (f g : X → ℕ) (xs : List X) → All (λ x. f x ≡ g x) xs → sum_by f xs ≡ sum_by g xs
sum_by-all {X} f g [] same = refl
sum_by-all {X} f g (x ∷ xs) same = omega (arith, sum_by-cons f x xs, sum_by-cons g x xs, All-head (λ x. f x ≡ g x) x xs same, sum_by-all f g xs (All-tail (λ x. f x ≡ g x) x xs same))

module _ (ward_of : List ℕ → ℕ) (journals : List (List JournalEntry)) where
  one_diary : (diary : DiaryState) → ((number : ℕ) → IsSameIn ward_of journals diary number) → sum_by (λ (journal : List JournalEntry). length (of_caller diary.client journal)) journals ≡ length diary.entries
  one_diary diary same =
      sum_by-total (λ (journal : List JournalEntry). length (of_caller diary.client journal)) journals []
      ∙ total-same (length journals) (λ number. length (of_caller diary.client (journal_at journals number))) (λ number. length (in_ward ward_of number diary.entries)) (λ number. sym (ap length (same number)))
      ∙ by_wards ward_of (length journals) diary.entries (all_within ward_of journals diary same)

  pub as_many : (diaries : List DiaryState) → IsSettled ward_of journals diaries → sum_by length journals ≡ answer_count diaries
  as_many diaries settled =
      sym (sum_by-all (λ (journal : List JournalEntry). sum_by (λ (diary : DiaryState). length (of_caller diary.client journal)) diaries) length journals (λ k d within. by_callers diaries (get_or journals k d) settled.apart (settled.known k d within)))
      ∙ sum_by-sum_by (λ (journal : List JournalEntry) (diary : DiaryState). length (of_caller diary.client journal)) journals diaries
      ∙ sum_by-all (λ (diary : DiaryState). sum_by (λ (journal : List JournalEntry). length (of_caller diary.client journal)) journals) (λ (diary : DiaryState). length diary.entries) diaries (λ k d within. one_diary (get_or diaries k d) (settled.same k d within))
