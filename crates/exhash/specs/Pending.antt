-- Calls that changed a map since it was saved.
use Rattle.std.specs.Prelude.{◌≡◌, ℕ, List, [], Option, Some, None, IfSome}
use Rattle.std.specs.Option.{option_map}
use Rattle.exh_keyer.specs.Pseudokey.{any_pseudokey}
use Rattle.exh_page.specs.KeyMap.{KeyMap}
use Rattle.exh_calls.specs.MapMachine.{map_after}
use Rattle.exh_calls.specs.declared.call.Call.{Call}
use Rattle.exh_calls.specs.declared.call.Call.TheVariants as call
use Rattle.exh_map.specs.Batch.{map_after_all}
use Rattle.exh_map.specs.FileChange.{HasMap}
use Rattle.exh_map.specs.Opened.{OpenedState}
use Rattle.exh_map.specs.declared.put.Put.{Put}
use Rattle.exh_map.specs.declared.put.Put.TheVariants as put
use Rattle.exh_map.specs.declared.put_new.PutNew.{PutNew}
use Rattle.exh_map.specs.declared.put_new.PutNew.TheVariants as put_new
use Rattle.exh_map.specs.declared.swap.Swap.{Swap}
use Rattle.exh_map.specs.declared.swap.Swap.TheVariants as swap
use Rattle.exhash.specs.declared.pending.Pending.{Pending}

-- the calls, where they are known
abbrev pub are_known : Pending → Option (List Call)
are_known pending = option_map (λ calls. calls.items) pending.calls

-- no call changed the map
abbrev pub IsEmpty : Pending → Type 0
IsEmpty pending = are_known pending ≡ Some []

-- ---- maps

-- where the calls are known, the map machine makes one map of the other by them
abbrev pub LeadTo : ℕ → (List ℕ → ℕ) → KeyMap → Pending → KeyMap → Type 0
LeadTo cap pseudo was pending whole = IfSome (are_known pending) (λ calls. map_after_all cap pseudo was calls ≡ whole)

-- a file has the map that they make of this one
pub record IsMadeOf (map : OpenedState) (was : KeyMap) (pending : Pending) : Type 0 where
  pub whole : KeyMap
  pub has : HasMap map whole
  pub lead : LeadTo map.cap (any_pseudokey map.keyer) was pending whole

-- of whichever map they made the first file's, of that the others make the second's
abbrev pub KeepsPending : OpenedState → Pending → OpenedState → Pending → Type 0
KeepsPending old before new after = (was : KeyMap) → IsMadeOf old was before → IsMadeOf new was after

-- ---- calls that are noted

-- the call comes behind the others
abbrev pub Follows : Call → Pending → Pending → Type 0
Follows call old new = (cap : ℕ) (pseudo : List ℕ → ℕ) (was whole : KeyMap) → LeadTo cap pseudo was old whole → LeadTo cap pseudo was new (map_after cap pseudo whole call)

-- by what was answered: a call that changed nothing isn't noted
abbrev pub NotesPut : Put → List ℕ → List ℕ → Pending → Pending → Type 0
NotesPut put.New key value old new = Follows (call.Put key value) old new
NotesPut (put.Was stood) key value old new = Follows (call.Put key value) old new
NotesPut put.Full key value old new = new ≡ old

abbrev pub NotesPutNew : PutNew → List ℕ → List ℕ → Pending → Pending → Type 0
NotesPutNew put_new.New key value old new = Follows (call.Put key value) old new
NotesPutNew (put_new.Is stood) key value old new = new ≡ old
NotesPutNew put_new.Full key value old new = new ≡ old

abbrev pub NotesReplaced : Option (List ℕ) → List ℕ → List ℕ → Pending → Pending → Type 0
NotesReplaced (Some stood) key value old new = Follows (call.Put key value) old new
NotesReplaced None key value old new = new ≡ old

abbrev pub NotesRemoved : Option (List ℕ) → List ℕ → Pending → Pending → Type 0
NotesRemoved (Some stood) key old new = Follows (call.Del key) old new
NotesRemoved None key old new = new ≡ old

abbrev pub NotesSwap : Swap → List ℕ → List ℕ → List ℕ → Pending → Pending → Type 0
NotesSwap swap.Swapped key was value old new = Follows (call.Swap key was value) old new
NotesSwap (swap.Differs stood) key was value old new = new ≡ old
NotesSwap swap.None key was value old new = new ≡ old
