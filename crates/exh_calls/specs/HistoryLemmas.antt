-- Histories with one entry more, at the end and at the front.
use Rattle.std.proofs.Common.{◌≡◌, ℕ, List, [], ◌∷◌, ◌++◌, refl, ap, subst}
use Rattle.exh_calls.specs.declared.journal_entry.JournalEntry.{JournalEntry}
use Rattle.exh_calls.specs.History.{IsHistory, map_left}
use Rattle.exh_page.specs.KeyMap.{KeyMap}
use Rattle.exh_calls.specs.MapMachine.{reply_of, map_after}

pub IsHistory-push : (cap : ℕ) (pseudo : List ℕ → ℕ) (base : KeyMap) (entries : List JournalEntry) (entry : JournalEntry)
    → IsHistory cap pseudo base entries → entry.reply ≡ reply_of cap pseudo (map_left cap pseudo base entries) entry.call → IsHistory cap pseudo base (entries ++ entry ∷ [])
IsHistory-push cap pseudo base [] entry history reply = (reply, tt)
IsHistory-push cap pseudo base (first ∷ entries) entry history reply = (history.0, IsHistory-push cap pseudo (map_after cap pseudo base first.call) entries entry history.1 reply)

pub map_left-push : (cap : ℕ) (pseudo : List ℕ → ℕ) (base : KeyMap) (entries : List JournalEntry) (entry : JournalEntry)
    → map_left cap pseudo base (entries ++ entry ∷ []) ≡ map_after cap pseudo (map_left cap pseudo base entries) entry.call
map_left-push cap pseudo base [] entry = refl
map_left-push cap pseudo base (first ∷ entries) entry = map_left-push cap pseudo (map_after cap pseudo base first.call) entries entry

-- ---- at the front

-- a map goes on to another: by the map machine's answer to the entry, or with no entry not at all
abbrev pub MapGoes : ℕ → (List ℕ → ℕ) → KeyMap → List JournalEntry → KeyMap → Type 0
MapGoes cap pseudo old [] new = new ≡ old
MapGoes cap pseudo old (entry ∷ []) new = (entry.reply ≡ reply_of cap pseudo old entry.call) × (new ≡ map_after cap pseudo old entry.call)
MapGoes cap pseudo old (entry ∷ other ∷ entries) new = ⊥

module _ (cap : ℕ) (pseudo : List ℕ → ℕ) (old new : KeyMap) where
  pub history_on : (entries rest : List JournalEntry) → MapGoes cap pseudo old entries new → IsHistory cap pseudo new rest → IsHistory cap pseudo old (entries ++ rest)
  history_on [] rest goes is = subst (λ m. IsHistory cap pseudo m rest) goes is
  history_on (entry ∷ []) rest goes is = (goes.0, subst (λ m. IsHistory cap pseudo m rest) goes.1 is)
  history_on (entry ∷ other ∷ entries) rest goes is = absurd goes

  pub left_on : (entries rest : List JournalEntry) → MapGoes cap pseudo old entries new → map_left cap pseudo new rest ≡ map_left cap pseudo old (entries ++ rest)
  left_on [] rest goes = ap (λ m. map_left cap pseudo m rest) goes
  left_on (entry ∷ []) rest goes = ap (λ m. map_left cap pseudo m rest) goes.1
  left_on (entry ∷ other ∷ entries) rest goes = absurd goes

  -- no entry, no other map
  pub unmoved_by : (entries : List JournalEntry) → MapGoes cap pseudo old entries new → entries ≡ [] → new ≡ old
  unmoved_by entries goes none = subst (λ entries. MapGoes cap pseudo old entries new) none goes
