-- When the diaries of callers and the journals of wards say the same.
use Rattle.std.specs.Prelude.{◌≡◌, ◌≢◌, ◌==◌, ℕ, List, [], map, filter, length, slice_index_or, sum_by, All, Any, AllPairs}
use Rattle.exh_calls.specs.Call.{key_of}
use Rattle.exh_calls.specs.declared.journal_entry.JournalEntry.{JournalEntry}
use Rattle.exh_calls.specs.declared.diary_entry.DiaryEntry.{DiaryEntry}
use Rattle.exh_calls.specs.Diary.{DiaryState, without_client}

-- the entries of one caller in a journal, in its order, as the caller writes them down
abbrev pub of_caller : ℕ → List JournalEntry → List DiaryEntry
of_caller client journal = map without_client (filter (λ entry. entry.client == client) journal)

-- the entries of a diary whose keys belong to one ward, in its order
abbrev pub in_ward : (List ℕ → ℕ) → ℕ → List DiaryEntry → List DiaryEntry
in_ward ward_of number entries = filter (λ entry. ward_of (key_of entry.call) == number) entries

-- the journal of the ward of this number; of a ward that isn't there no entries
abbrev pub journal_at : List (List JournalEntry) → ℕ → List JournalEntry
journal_at journals number = slice_index_or journals number []

-- one of the diaries is this caller's
abbrev pub IsOfOne : List DiaryState → ℕ → Type 0
IsOfOne diaries client = Any (λ (diary : DiaryState). diary.client ≡ client) diaries

-- the diaries are of different callers
abbrev pub AreApart : List DiaryState → Type 0
AreApart diaries = AllPairs (λ (one other : DiaryState). one.client ≢ other.client) diaries

-- a diary's entries in one ward are those of its caller in the ward's journal, in the same order
abbrev pub IsSameIn : (List ℕ → ℕ) → List (List JournalEntry) → DiaryState → ℕ → Type 0
IsSameIn ward_of journals diary number = in_ward ward_of number diary.entries ≡ of_caller diary.client (journal_at journals number)

-- by which ward a key belongs to: no two diaries of one caller, no entry of a caller without a diary, and each diary
-- is, ward by ward and in its order, the entries of its caller in that ward's journal
pub record IsSettled (ward_of : List ℕ → ℕ) (journals : List (List JournalEntry)) (diaries : List DiaryState) : Type 0 where
  pub apart : AreApart diaries
  pub known : All (All (λ (entry : JournalEntry). IsOfOne diaries entry.client)) journals
  pub same : All (λ (diary : DiaryState). (number : ℕ) → IsSameIn ward_of journals diary number) diaries

-- how many calls the callers were answered
abbrev pub answer_count : List DiaryState → ℕ
answer_count diaries = sum_by (λ (diary : DiaryState). length diary.entries) diaries
