-- Histories and what stands after their beginnings.
use Rattle.std.proofs.Common.{◌≡◌, ℕ, List, [], ◌∷◌, ◌++◌}
use Rattle.exh_page.specs.KeyMap.{KeyMap}
use Rattle.exh_calls.specs.History.{IsHistory, map_left}
use Rattle.exh_calls.specs.MapMachine.{reply_of, map_after}
use Rattle.exh_calls.specs.declared.journal_entry.JournalEntry.{JournalEntry}

-- an entry's reply is the map machine's over the map that the entries before it leave
pub reply_behind : (cap : ℕ) (pseudo : List ℕ → ℕ) (base : KeyMap) (entries rest : List JournalEntry) (entry : JournalEntry)
    → IsHistory cap pseudo base (entries ++ entry ∷ rest) → entry.reply ≡ reply_of cap pseudo (map_left cap pseudo base entries) entry.call
reply_behind cap pseudo base [] rest entry history = history.0
reply_behind cap pseudo base (first ∷ entries) rest entry history = reply_behind cap pseudo (map_after cap pseudo base first.call) entries rest entry history.1
