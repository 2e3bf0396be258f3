-- A caller's diary.
use Rattle.std.specs.Prelude.{ℕ, Bool, List}
use Rattle.exh_calls.specs.declared.journal_entry.JournalEntry.{JournalEntry}
use Rattle.exh_calls.specs.declared.diary_entry.DiaryEntry.{DiaryEntry}

-- the caller's number, its answered calls in order, and whether there is room for one more of the greatest size
pub record DiaryState : Type 0 where
  pub client : ℕ
  pub entries : List DiaryEntry
  pub room : Bool

-- what a caller writes down of a journal's entry: the call and the reply
abbrev pub without_client : JournalEntry → DiaryEntry
without_client entry = record { call = entry.call; reply = entry.reply }
