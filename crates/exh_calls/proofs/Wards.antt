-- Diaries, of whose keys some belong to wards that aren't there.
use Rattle.std.proofs.Common.{◌≡◌, ◌==◌, ℕ, suc, Bool, ◌<◌, ◌≤◌, inl, inr, List, [], ◌∷◌, ◌++◌, length, get_or, take, drop, refl, sym, ap, ◌∙◌, arith}
use Rattle.std.specs.Prelude.{All, filter}
use Rattle.std.proofs.lemmas.Bool.{cases_lt, cond-false, eq-eqb, ne_eqb}
use Rattle.std.proofs.lemmas.List.{get_or_past}
use Rattle.std.proofs.lemmas.List.Elements.{All-head, All-tail}
use Rattle.std.proofs.Math.Seq.{split_at}
use Rattle.exh_calls.specs.Call.{key_of}
use Rattle.exh_calls.specs.declared.journal_entry.JournalEntry.{JournalEntry}
use Rattle.exh_calls.specs.declared.diary_entry.DiaryEntry.{DiaryEntry}
use Rattle.exh_calls.specs.Diary.{DiaryState}
use Rattle.exh_calls.specs.Settled.{IsSameIn, in_ward, journal_at, of_caller}
use Rattle.exh_calls.proofs.Splits.{SplitsAt, in_ward-own, split_caller}

none_of : (ward_of : List ℕ → ℕ) (number limit : ℕ) (entries : List DiaryEntry) → limit ≤ number → All (λ (entry : DiaryEntry). ward_of (key_of entry.call) < limit) entries → in_ward ward_of number entries ≡ []
none_of ward_of number limit [] beyond within = refl
none_of ward_of number limit (entry ∷ entries) beyond within =
    let P : DiaryEntry → Type 0 = λ other. ward_of (key_of other.call) < limit in
    let less = All-head P entry entries within in
    let test : DiaryEntry → Bool = λ other. ward_of (key_of other.call) == number in
    cond-false (test entry) (entry ∷ filter test entries) (filter test entries) (ne_eqb (ward_of (key_of entry.call)) number (λ same. omega (arith, less, beyond, same)))
    ∙ none_of ward_of number limit entries beyond (All-tail P entry entries within)

not_empty : (front back : List JournalEntry) (entry : JournalEntry) → [] ≡ front ++ entry ∷ back → ⊥
not_empty [] back entry none = cc
not_empty (first ∷ front) back entry none = cc

module _ (ward_of : List ℕ → ℕ) (journals : List (List JournalEntry)) (diary : DiaryState) where
  -- of a ward that isn't there neither has an entry
  pub none_beyond : (number : ℕ) → length journals ≤ number → All (λ (entry : DiaryEntry). ward_of (key_of entry.call) < length journals) diary.entries → IsSameIn ward_of journals diary number
  none_beyond number beyond within = none_of ward_of number (length journals) diary.entries beyond within ∙ sym (ap (of_caller diary.client) (get_or_past journals number [] beyond))

  -- an entry of a diary splits the journal of its key's ward
  pub splits : (front back : List DiaryEntry) (entry : DiaryEntry) → IsSameIn ward_of journals diary (ward_of (key_of entry.call)) → diary.entries ≡ front ++ entry ∷ back
      → SplitsAt diary.client (journal_at journals (ward_of (key_of entry.call))) entry (in_ward ward_of (ward_of (key_of entry.call)) back)
  splits front back entry same whole =
      let number = ward_of (key_of entry.call) in
      split_caller diary.client (journal_at journals number) (in_ward ward_of number front) (in_ward ward_of number back) entry
      (sym same ∙ ap (in_ward ward_of number) whole ∙ in_ward-own ward_of number front back entry (eq-eqb number number refl))

  pub all_within : ((number : ℕ) → IsSameIn ward_of journals diary number) → All (λ (entry : DiaryEntry). ward_of (key_of entry.call) < length journals) diary.entries
  all_within same k d less =
      let entry = get_or diary.entries k d in
      let number = ward_of (key_of entry.call) in
      elim (cases_lt number (length journals)) [
        | inl within ↦ within
        | inr beyond ↦
            let split = splits (take k diary.entries) (drop (suc k) diary.entries) entry (same number) (split_at diary.entries k d less) in
            absurd (not_empty split.front split.back _ (sym (get_or_past journals number [] beyond) ∙ split.whole))
      ]
