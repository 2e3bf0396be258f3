-- Where an entry stands in a diary, in what a ward has of it, and in a journal.
use Rattle.std.proofs.Common.{◌≡◌, ◌==◌, ℕ, Bool, true, false, List, [], ◌∷◌, ◌++◌, map, sym, ap, ◌∙◌, inl, inr, Option, Some, None, not, is_some}
use Rattle.std.specs.Prelude.{IsTrue, MatchOption, filter}
use Rattle.std.proofs.lemmas.Bool.{cases_Bool, true≢false, not-false, cond-true, cond-false, eqb-true}
use Rattle.std.proofs.lemmas.List.{append-nil}
use Rattle.std.proofs.lemmas.List.Elements.{filter-append}
use Rattle.exh_calls.specs.Call.{key_of}
use Rattle.exh_calls.specs.declared.journal_entry.JournalEntry.{JournalEntry}
use Rattle.exh_calls.specs.declared.diary_entry.DiaryEntry.{DiaryEntry}
use Rattle.exh_calls.specs.Diary.{without_client}
use Rattle.exh_calls.specs.SettledLaws.{with_client}
use Rattle.exh_calls.specs.Settled.{in_ward, of_caller}

module _ (ward_of : List ℕ → ℕ) (number : ℕ) (front back : List DiaryEntry) (entry : DiaryEntry) where
  abbrev test : DiaryEntry → Bool
  test other = ward_of (key_of other.call) == number

  -- an entry of the ward stands among those of the ward
  pub in_ward-own : (ward_of (key_of entry.call) == number) ≡ true → in_ward ward_of number (front ++ entry ∷ back) ≡ in_ward ward_of number front ++ entry ∷ in_ward ward_of number back
  in_ward-own own = filter-append test front (entry ∷ back) ∙ ap (λ rest. filter test front ++ rest) (cond-true (test entry) (entry ∷ filter test back) (filter test back) own)

  pub in_ward-other : (ward_of (key_of entry.call) == number) ≡ false → in_ward ward_of number (front ++ entry ∷ back) ≡ in_ward ward_of number front ++ in_ward ward_of number back
  in_ward-other other = filter-append test front (entry ∷ back) ∙ ap (λ rest. filter test front ++ rest) (cond-false (test entry) (entry ∷ filter test back) (filter test back) other)

-- ---- journals

pub of_caller-own : (client : ℕ) (entry : JournalEntry) (journal : List JournalEntry) → (entry.client == client) ≡ true
    → of_caller client (entry ∷ journal) ≡ without_client entry ∷ of_caller client journal
of_caller-own client entry journal own = ap (map without_client) (cond-true (entry.client == client) (entry ∷ filter (λ (other : JournalEntry). other.client == client) journal) (filter (λ (other : JournalEntry). other.client == client) journal) own)

pub of_caller-other : (client : ℕ) (entry : JournalEntry) (journal : List JournalEntry) → (entry.client == client) ≡ false
    → of_caller client (entry ∷ journal) ≡ of_caller client journal
of_caller-other client entry journal other = ap (map without_client) (cond-false (entry.client == client) (entry ∷ filter (λ (other : JournalEntry). other.client == client) journal) (filter (λ (other : JournalEntry). other.client == client) journal) other)

-- a journal around an entry of a caller
pub record SplitsAt (client : ℕ) (journal : List JournalEntry) (entry : DiaryEntry) (rest : List DiaryEntry) : Type 0 where
  pub front : List JournalEntry
  pub back : List JournalEntry
  pub whole : journal ≡ front ++ with_client client entry ∷ back
  pub behind : of_caller client back ≡ rest

whole_entry : (client : ℕ) (entry : JournalEntry) (one : DiaryEntry) → (entry.client == client) ≡ true → without_client entry ≡ one → entry ≡ with_client client one
whole_entry client entry one own same = ap (λ number. with_client number (without_client entry)) (eqb-true entry.client client own) ∙ ap (with_client client) same

pub first_of : (one other : DiaryEntry) (xs ys : List DiaryEntry) → one ∷ xs ≡ other ∷ ys → one ≡ other
first_of one other xs ys same = cc

pub others_of : (one other : DiaryEntry) (xs ys : List DiaryEntry) → one ∷ xs ≡ other ∷ ys → xs ≡ ys
others_of one other xs ys same = cc

pub behind_same : (front xs ys : List DiaryEntry) → front ++ xs ≡ front ++ ys → xs ≡ ys
behind_same [] xs ys same = same
behind_same (entry ∷ front) xs ys same = behind_same front xs ys (others_of entry entry (front ++ xs) (front ++ ys) same)

pub cons_not_nil : (entry : DiaryEntry) (entries : List DiaryEntry) → entry ∷ entries ≡ [] → ⊥
cons_not_nil entry entries none = cc

-- two walks side by side have come to the end of the first: they had the same where the second is at its end too
pub at_the_end : (front told own from after : List DiaryEntry) (next : Option DiaryEntry) (end : Bool) → is_some next ≡ not end
    → MatchOption next ((told ≡ []) × (after ≡ [])) (λ entry. told ≡ entry ∷ after) → own ≡ front → from ≡ front ++ told → (IsTrue end → own ≡ from) × (own ≡ from → IsTrue end)
at_the_end front told own from after None end is turn had left = (λ _. had ∙ sym (append-nil front) ∙ ap (λ rest. front ++ rest) (sym turn.0) ∙ sym left, λ _. not-false end (sym is))
at_the_end front told own from after (Some entry) end is turn had left = (
  λ ended. absurd (true≢false (is ∙ ap not ended)),
  λ same. absurd (cons_not_nil entry after (sym turn ∙ sym (behind_same front [] told (append-nil front ∙ sym had ∙ same ∙ left)))),
)

-- what a journal has of a caller stands in the journal
pub split_caller : (client : ℕ) (journal : List JournalEntry) (front back : List DiaryEntry) (one : DiaryEntry) → of_caller client journal ≡ front ++ one ∷ back → SplitsAt client journal one back
split_caller client [] [] back one same = absurd (cc)
split_caller client [] (first ∷ front) back one same = absurd (cc)
split_caller client (entry ∷ journal) [] back one same =
    elim (cases_Bool (entry.client == client)) [
      | inl own ↦
          let tied = sym (of_caller-own client entry journal own) ∙ same in
          record {
            front = [];
            back = journal;
            whole = ap (λ first. first ∷ journal) (whole_entry client entry one own (first_of _ _ _ _ tied));
            behind = others_of _ _ _ _ tied;
          }
      | inr other ↦
          let inner = split_caller client journal [] back one (sym (of_caller-other client entry journal other) ∙ same) in
          record { front = entry ∷ inner.front; back = inner.back; whole = ap (λ rest. entry ∷ rest) inner.whole; behind = inner.behind }
    ]
split_caller client (entry ∷ journal) (first ∷ front) back one same =
    elim (cases_Bool (entry.client == client)) [
      | inl own ↦
          let inner = split_caller client journal front back one (others_of _ _ _ _ (sym (of_caller-own client entry journal own) ∙ same)) in
          record { front = entry ∷ inner.front; back = inner.back; whole = ap (λ rest. entry ∷ rest) inner.whole; behind = inner.behind }
      | inr other ↦
          let inner = split_caller client journal (first ∷ front) back one (sym (of_caller-other client entry journal other) ∙ same) in
          record { front = entry ∷ inner.front; back = inner.back; whole = ap (λ rest. entry ∷ rest) inner.whole; behind = inner.behind }
    ]
