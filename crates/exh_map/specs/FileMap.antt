-- What calls make of the one map that the wards of a file have together.
use Rattle.std.specs.Prelude.{◌≡◌, ℕ, List, Option, None, Some}
use Rattle.std.specs.FinMap as fin
use Rattle.exh_keyer.specs.Pseudokey.{any_pseudokey}
use Rattle.exh_page.specs.KeyMap.{KeyMap}
use Rattle.exh_calls.specs.MapMachine.{map_after, reply_of}
use Rattle.exh_calls.specs.declared.call.Call.{Call}
use Rattle.exh_calls.specs.declared.call.Call.TheVariants.{Del, Put, Swap}
use Rattle.exh_calls.specs.declared.reply.Reply.{Reply}
use Rattle.exh_keyer.specs.declared.any_keyer.AnyKeyer.{AnyKeyer}
use Rattle.exh_legal.specs.Pages.{map_of}
use Rattle.exh_ward.specs.WardState.{WardState}
use Rattle.exh_in_place.specs.FileChange.{HasMap}
use Rattle.exh_in_place.specs.InWardLemmas.{HasSettings}
use Rattle.exh_in_place.specs.Opened.{OpenedState}
use Rattle.exh_map.specs.Answers.{put_new_said, put_said, swap_said, value_said}
use Rattle.exh_map.specs.declared.put.Put.{Put as PutAnswer}
use Rattle.exh_map.specs.declared.put_new.PutNew.{PutNew as PutNewAnswer}
use Rattle.exh_map.specs.declared.put_new.PutNew.TheVariants.{Is}
use Rattle.exh_map.specs.declared.swap.Swap.{Swap as SwapAnswer}

-- ---- one map

-- the files have the same map
abbrev pub KeepsMap : OpenedState → OpenedState → Type 0
KeepsMap old new = (whole : KeyMap) → HasMap old whole → HasMap new whole

-- the reply of the map machine to a call, over a map that a file of these settings has, and the map that the call leaves
abbrev pub reply_in : OpenedState → KeyMap → Call → Reply
reply_in file whole call = reply_of file.cap (any_pseudokey file.keyer) whole call

abbrev pub map_then : OpenedState → KeyMap → Call → KeyMap
map_then file whole call = map_after file.cap (any_pseudokey file.keyer) whole call

-- ---- calls: each says of whichever map the file has what is answered, and which map it then has

-- the value that the key has
pub record IsGotOf (old : OpenedState) (key : List ℕ) (answer : Option (List ℕ)) (new : OpenedState) (whole : KeyMap) : Type 0 where
  pub answer_is : answer ≡ fin.get whole key
  pub map : HasMap new whole

abbrev pub IsGot : OpenedState → List ℕ → Option (List ℕ) → OpenedState → Type 0
IsGot old key answer new = (whole : KeyMap) → HasMap old whole → IsGotOf old key answer new whole

-- what the map machine says of a put
pub record IsPutOf (old : OpenedState) (key value : List ℕ) (answer : PutAnswer) (new : OpenedState) (whole : KeyMap) : Type 0 where
  pub answer_is : answer ≡ put_said (reply_in old whole (Put key value))
  pub map : HasMap new (map_then old whole (Put key value))

abbrev pub IsPut : OpenedState → List ℕ → List ℕ → PutAnswer → OpenedState → Type 0
IsPut old key value answer new = (whole : KeyMap) → HasMap old whole → IsPutOf old key value answer new whole

-- of a key that has a value, that; of another what the map machine says of a put
abbrev pub PutsNew : OpenedState → List ℕ → List ℕ → PutNewAnswer → OpenedState → KeyMap → Option (List ℕ) → Type 0
PutsNew old key value answer new whole (Some stood) = (answer ≡ Is stood) × HasMap new whole
PutsNew old key value answer new whole None = (answer ≡ put_new_said (reply_in old whole (Put key value))) × HasMap new (map_then old whole (Put key value))

abbrev pub IsPutNew : OpenedState → List ℕ → List ℕ → PutNewAnswer → OpenedState → Type 0
IsPutNew old key value answer new = (whole : KeyMap) → HasMap old whole → PutsNew old key value answer new whole (fin.get whole key)

-- of a key that has a value, that, and the key gets the new one
abbrev pub Replaces : List ℕ → List ℕ → Option (List ℕ) → OpenedState → KeyMap → Option (List ℕ) → Type 0
Replaces key value answer new whole (Some stood) = (answer ≡ Some stood) × HasMap new (fin.insert whole key value)
Replaces key value answer new whole None = (answer ≡ None) × HasMap new whole

abbrev pub IsReplaced : OpenedState → List ℕ → List ℕ → Option (List ℕ) → OpenedState → Type 0
IsReplaced old key value answer new = (whole : KeyMap) → HasMap old whole → Replaces key value answer new whole (fin.get whole key)

-- the value that the key had, which the map that is left doesn't have
pub record IsRemovedOf (old : OpenedState) (key : List ℕ) (answer : Option (List ℕ)) (new : OpenedState) (whole : KeyMap) : Type 0 where
  pub answer_is : answer ≡ fin.get whole key
  pub map : HasMap new (map_then old whole (Del key))

abbrev pub IsRemoved : OpenedState → List ℕ → Option (List ℕ) → OpenedState → Type 0
IsRemoved old key answer new = (whole : KeyMap) → HasMap old whole → IsRemovedOf old key answer new whole

-- what the map machine says of a swap
pub record IsSwapOf (old : OpenedState) (key was value : List ℕ) (answer : SwapAnswer) (new : OpenedState) (whole : KeyMap) : Type 0 where
  pub answer_is : answer ≡ swap_said (reply_in old whole (Swap key was value))
  pub map : HasMap new (map_then old whole (Swap key was value))

abbrev pub IsSwap : OpenedState → List ℕ → List ℕ → List ℕ → SwapAnswer → OpenedState → Type 0
IsSwap old key was value answer new = (whole : KeyMap) → HasMap old whole → IsSwapOf old key was value answer new whole

-- ---- a put of a key behind a get of it

pub record IsPutAbsentOf (old : OpenedState) (key value : List ℕ) (answer : PutNewAnswer) (new : OpenedState) (whole : KeyMap) : Type 0 where
  pub answer_is : answer ≡ put_new_said (reply_in old whole (Put key value))
  pub map : HasMap new (map_then old whole (Put key value))

abbrev pub IsPutAbsent : OpenedState → List ℕ → List ℕ → PutNewAnswer → OpenedState → Type 0
IsPutAbsent old key value answer new = (whole : KeyMap) → HasMap old whole → IsPutAbsentOf old key value answer new whole

pub record IsPutOverOf (old : OpenedState) (key value : List ℕ) (answer : Option (List ℕ)) (new : OpenedState) (whole : KeyMap) : Type 0 where
  pub answer_is : answer ≡ value_said (reply_in old whole (Put key value))
  pub map : HasMap new (map_then old whole (Put key value))

abbrev pub IsPutOver : OpenedState → List ℕ → List ℕ → Option (List ℕ) → OpenedState → Type 0
IsPutOver old key value answer new = (whole : KeyMap) → HasMap old whole → IsPutOverOf old key value answer new whole

-- ---- one ward

-- the same map and settings
pub record IsSameMap (old new : WardState AnyKeyer) : Type 0 where
  pub map : map_of new.pages ≡ map_of old.pages
  pub settings : HasSettings old new

-- the map machine's reply and map, over the ward's own
pub record IsAnsweredBy (old : WardState AnyKeyer) (call : Call) (reply : Reply) (new : WardState AnyKeyer) : Type 0 where
  pub reply_is : reply ≡ reply_of old.cap (any_pseudokey old.keyer) (map_of old.pages) call
  pub map : map_of new.pages ≡ map_after old.cap (any_pseudokey old.keyer) (map_of old.pages) call
  pub settings : HasSettings old new
