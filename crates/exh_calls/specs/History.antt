-- A history: calls with the replies that the map machine gives them, one after another, from a base map.
use Rattle.std.specs.Prelude.{◌≡◌, ⊤, ℕ, List, [], ◌∷◌}
use Rattle.exh_page.specs.KeyMap.{KeyMap}
use Rattle.exh_calls.specs.MapMachine.{reply_of, map_after}
use Rattle.exh_calls.specs.declared.journal_entry.JournalEntry.{JournalEntry}

abbrev pub IsHistory : ℕ → (List ℕ → ℕ) → KeyMap → List JournalEntry → Type 0
IsHistory cap pseudo base [] = ⊤
IsHistory cap pseudo base (entry ∷ entries) = (entry.reply ≡ reply_of cap pseudo base entry.call) × IsHistory cap pseudo (map_after cap pseudo base entry.call) entries

-- the map that the calls leave
abbrev pub map_left : ℕ → (List ℕ → ℕ) → KeyMap → List JournalEntry → KeyMap
map_left cap pseudo base [] = base
map_left cap pseudo base (entry ∷ entries) = map_left cap pseudo (map_after cap pseudo base entry.call) entries
