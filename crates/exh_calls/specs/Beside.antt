-- A diary walked beside the journals of a row of wards, each from a place on: words of the private functions.
use Rattle.std.specs.Prelude.{◌≡◌, ◌⊎◌, ℕ, ◌+◌, ◌<◌, ◌≤◌, List, [], ◌∷◌, ◌++◌, drop, length, slice_index_or, All}
use Rattle.exh_calls.specs.Call.{key_of}
use Rattle.exh_calls.specs.declared.journal_entry.JournalEntry.{JournalEntry}
use Rattle.exh_calls.specs.declared.diary_entry.DiaryEntry.{DiaryEntry}
use Rattle.exh_calls.specs.declared.settlement.TheConstants.{ROW}
use Rattle.exh_calls.specs.Diary.{DiaryState}
use Rattle.exh_calls.specs.Settled.{IsSameIn, in_ward, journal_at, of_caller}

-- the entries of one caller in a journal from a place on
abbrev pub of_caller_from : ℕ → List JournalEntry → ℕ → List DiaryEntry
of_caller_from client journal place = of_caller client (drop place journal)

-- what is left of a caller in the journal of the ward at a slot of the row that begins with a number, from its place on
abbrev pub left_at : List (List JournalEntry) → ℕ → ℕ → List ℕ → ℕ → List DiaryEntry
left_at journals client first places slot = of_caller_from client (journal_at journals (first + slot)) (slice_index_or places slot 0)

-- nothing is left
abbrev pub AreOver : List (List JournalEntry) → ℕ → ℕ → List ℕ → Type 0
AreOver journals client first places = (slot : ℕ) → slot < ROW → left_at journals client first places slot ≡ []

-- the entry's ward is there; what was left in each ward is the entry, where it is the ward's, and what is left now
abbrev pub GoesOn : (List ℕ → ℕ) → List (List JournalEntry) → ℕ → ℕ → DiaryEntry → List ℕ → List ℕ → Type 0
GoesOn ward_of journals client first entry old new =
    (ward_of (key_of entry.call) < length journals)
    × ((slot : ℕ) → slot < ROW → left_at journals client first old slot ≡ in_ward ward_of (first + slot) (entry ∷ []) ++ left_at journals client first new slot)

-- the entry's ward isn't there, or is one of the row, and what was left there doesn't begin with the entry
abbrev pub Differs : (List ℕ → ℕ) → List (List JournalEntry) → ℕ → ℕ → DiaryEntry → List ℕ → Type 0
Differs ward_of journals client first entry places =
    (length journals ≤ ward_of (key_of entry.call))
    ⊎ ((slot : ℕ) × (slot < ROW) × (ward_of (key_of entry.call) ≡ first + slot) × ((rest : List DiaryEntry) → left_at journals client first places slot ≡ entry ∷ rest → ⊥))

-- the keys of a diary belong to wards that are there, and in each ward of the row it has what the ward's journal has of its caller
abbrev pub IsSameFrom : (List ℕ → ℕ) → List (List JournalEntry) → DiaryState → ℕ → Type 0
IsSameFrom ward_of journals diary first =
    All (λ (entry : DiaryEntry). ward_of (key_of entry.call) < length journals) diary.entries
    × ((slot : ℕ) → slot < ROW → IsSameIn ward_of journals diary (first + slot))
