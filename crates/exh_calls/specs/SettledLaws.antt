-- What settled diaries and journals have in common, in other words.
use Rattle.std.specs.Prelude.{◌≡◌, ℕ, List, ◌∷◌, ◌++◌, length, sum_by, All, Contains}
use Rattle.exh_calls.specs.Call.{key_of}
use Rattle.exh_calls.specs.declared.journal_entry.JournalEntry.{JournalEntry}
use Rattle.exh_calls.specs.declared.diary_entry.DiaryEntry.{DiaryEntry}
use Rattle.exh_calls.specs.Diary.{DiaryState}
use Rattle.exh_calls.specs.Settled.{IsSettled, answer_count, journal_at}

-- one element stands before another in a list
abbrev pub StandsBefore : {X : Type 0} → List X → X → X → Type 0
StandsBefore {X} xs one other = (front : List X) × (between : List X) × (back : List X) × (xs ≡ front ++ (one ∷ between ++ other ∷ back))

-- a diary's entry as a journal has it
abbrev pub with_client : ℕ → DiaryEntry → JournalEntry
with_client client entry = record { client = client; call = entry.call; reply = entry.reply }

-- the journal of the ward that an entry's key belongs to
abbrev pub journal_of : (List ℕ → ℕ) → List (List JournalEntry) → DiaryEntry → List JournalEntry
journal_of ward_of journals entry = journal_at journals (ward_of (key_of entry.call))

-- of one diary: each entry stands in the journal of its key's ward, and of two entries of one ward the earlier one before
-- the other
pub record IsWrittenDown (ward_of : List ℕ → ℕ) (journals : List (List JournalEntry)) (diary : DiaryState) : Type 0 where
  pub stands : All (λ entry. Contains (journal_of ward_of journals entry) (with_client diary.client entry)) diary.entries
  pub order : (one other : DiaryEntry) → ward_of (key_of one.call) ≡ ward_of (key_of other.call) → StandsBefore diary.entries one other
      → StandsBefore (journal_of ward_of journals one) (with_client diary.client one) (with_client diary.client other)

pub record AreWrittenDown (ward_of : List ℕ → ℕ) (journals : List (List JournalEntry)) (diaries : List DiaryState) : Type 0 where
  pub as_many : sum_by length journals ≡ answer_count diaries
  pub each : All (IsWrittenDown ward_of journals) diaries

abbrev pub SettledBooksAgree : Type 0
SettledBooksAgree = (ward_of : List ℕ → ℕ) (journals : List (List JournalEntry)) (diaries : List DiaryState)
    → IsSettled ward_of journals diaries → AreWrittenDown ward_of journals diaries
