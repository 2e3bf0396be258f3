-- Laws of histories, of leading bits and of swaps, that the crates above cite.
use Rattle.std.specs.Prelude.{◌≡◌, ◌↔◌, ℕ, ◌<◌, ◌≤◌, ◌^◌, Bool, List, [], ◌∷◌, ◌++◌, length, map, Some, None}
use Rattle.std.specs.FinMap as fin
use Rattle.exh_page.specs.PrefixLimits.{LIMIT}
use Rattle.exh_page.specs.Prefix.{Begins}
use Rattle.exh_page.specs.Leading.{leading}
use Rattle.exh_page.specs.KeyMap.{KeyMap}
use Rattle.exh_calls.specs.History.{IsHistory, map_left}
use Rattle.exh_calls.specs.MapMachine.{reply_of, map_after}
use Rattle.exh_calls.specs.declared.call.Call.{Call}
use Rattle.exh_calls.specs.declared.call.Call.TheVariants.{Swap}
use Rattle.exh_calls.specs.declared.journal_entry.JournalEntry.{JournalEntry}
use Rattle.exh_calls.specs.declared.reply.Reply.{Reply}
use Rattle.exh_calls.specs.declared.reply.Reply.TheVariants.{None as Absent, Swapped, Differs}

-- one entry more, whose reply is the map machine's over the map left, makes a history whose map is the map machine's
pub record IsLonger (cap : ℕ) (pseudo : List ℕ → ℕ) (base : KeyMap) (journal : List JournalEntry) (entry : JournalEntry) : Type 0 where
  pub history : IsHistory cap pseudo base (journal ++ entry ∷ [])
  pub left : map_left cap pseudo base (journal ++ entry ∷ []) ≡ map_after cap pseudo (map_left cap pseudo base journal) entry.call

abbrev pub HistoriesGoOn : Type 0
HistoriesGoOn = (cap : ℕ) (pseudo : List ℕ → ℕ) (base : KeyMap) (journal : List JournalEntry) (entry : JournalEntry)
    → IsHistory cap pseudo base journal → entry.reply ≡ reply_of cap pseudo (map_left cap pseudo base journal) entry.call
    → IsLonger cap pseudo base journal entry

abbrev pub calls_of : List JournalEntry → List Call
calls_of journal = map (λ entry. entry.call) journal

abbrev pub replies_of : List JournalEntry → List Reply
replies_of journal = map (λ entry. entry.reply) journal

-- histories of the same calls from one base have the same replies, and leave the same map
abbrev pub HistoryIsDetermined : Type 0
HistoryIsDetermined = (cap : ℕ) (pseudo : List ℕ → ℕ) (base : KeyMap) (one other : List JournalEntry)
    → IsHistory cap pseudo base one → IsHistory cap pseudo base other → calls_of one ≡ calls_of other
    → (replies_of one ≡ replies_of other) × (map_left cap pseudo base one ≡ map_left cap pseudo base other)

-- a prefix that begins a pseudokey begins all that share its leading bits, as Full counts them; and one of LIMIT bits begins no others
pub record AreSharers (prefix : List Bool) (one other : ℕ) : Type 0 where
  pub begun : Begins prefix one → leading LIMIT other ≡ leading LIMIT one → Begins prefix other
  pub alone : length prefix ≡ LIMIT → Begins prefix one → Begins prefix other → leading LIMIT other ≡ leading LIMIT one

abbrev pub SharersBegin : Type 0
SharersBegin = (prefix : List Bool) (one other : ℕ) → length prefix ≤ LIMIT → one < 2 ^ 64 → other < 2 ^ 64 → AreSharers prefix one other

-- what a swap of a key is answered over a map, and what it leaves of it: in words of the map alone
pub record IsSwap (cap : ℕ) (pseudo : List ℕ → ℕ) (m : KeyMap) (key old new : List ℕ) : Type 0 where
  pub swapped : (reply_of cap pseudo m (Swap key old new) ≡ Swapped) ↔ (fin.get m key ≡ Some old)
  pub differs : (value : List ℕ) → (reply_of cap pseudo m (Swap key old new) ≡ Differs value) ↔ ((fin.get m key ≡ Some value) × (value ≡ old → ⊥))
  pub absent : (reply_of cap pseudo m (Swap key old new) ≡ Absent) ↔ (fin.get m key ≡ None)
  -- where the old value stands the key has the new one, and each other key what it had
  pub given : fin.get m key ≡ Some old → fin.get (map_after cap pseudo m (Swap key old new)) key ≡ Some new
  pub others : (other : List ℕ) → (other ≡ key → ⊥) → fin.get (map_after cap pseudo m (Swap key old new)) other ≡ fin.get m other
  -- else the map is the same
  pub same : (fin.get m key ≡ Some old → ⊥) → map_after cap pseudo m (Swap key old new) ≡ m

abbrev pub SwapsCompare : Type 0
SwapsCompare = (cap : ℕ) (pseudo : List ℕ → ℕ) (m : KeyMap) (key old new : List ℕ) → IsSwap cap pseudo m key old new
