-- A call that a file answers by itself.
use Rattle.std.specs.Prelude.{◌≡◌, ◌≢◌, ℕ, ◌^◌, List, length, map, slice_get, slice_set, None, Some}
use Rattle.std.specs.FinMap as fin
use Rattle.exh_prefix.specs.Leading.{ward_of}
use Rattle.exh_keyer.specs.declared.any_keyer.AnyKeyer.{AnyKeyer}
use Rattle.exh_keyer.specs.Pseudokey.{any_pseudokey}
use Rattle.exh_page.specs.KeyMap.{KeyMap}
use Rattle.exh_calls.specs.Call.{key_of}
use Rattle.exh_calls.specs.MapMachine.{reply_of, map_after}
use Rattle.exh_calls.specs.declared.call.Call.{Call}
use Rattle.exh_calls.specs.declared.reply.Reply.{Reply}
use Rattle.exh_legal.specs.Pages.{map_of}
use Rattle.exh_file.specs.Opened.{OpenedState}
use Rattle.exh_ward.specs.WardState.{WardState}
use Rattle.exh_file.specs.WardChange.{IsChanged}

-- the number of the ward that a key belongs to
abbrev pub ward_in : OpenedState → List ℕ → ℕ
ward_in file key = ward_of file.ward_bits (any_pseudokey file.keyer key)

-- the call was answered by the ward of its key, and the other wards and the settings are as before
pub record IsChangedIn (old : OpenedState) (call : Call) (reply : Reply) (new : OpenedState) : Type 0 where
  pub ward : WardState AnyKeyer
  pub after : WardState AnyKeyer
  pub there : slice_get old.wards (ward_in old (key_of call)) ≡ Some ward
  pub changed : IsChanged any_pseudokey ward call reply after
  pub others : new ≡ record old { wards = slice_set old.wards (ward_in old (key_of call)) after }

-- ---- as one map

-- the map of each ward, in the order of their numbers
abbrev pub maps_in : OpenedState → List KeyMap
maps_in file = map (λ (ward : WardState AnyKeyer). map_of ward.pages) file.wards

-- a ward's map has what the one map has of the ward's keys, and no other key
pub record IsPart (ward_bits : ℕ) (pseudo : List ℕ → ℕ) (whole : KeyMap) (number : ℕ) (own : KeyMap) : Type 0 where
  pub own_keys : (key : List ℕ) → ward_of ward_bits (pseudo key) ≡ number → fin.get own key ≡ fin.get whole key
  pub no_others : (key : List ℕ) → ward_of ward_bits (pseudo key) ≢ number → fin.get own key ≡ None

-- the maps of all wards together are the one map: there is one for each ward, and each is its ward's part
pub record AreParts (ward_bits : ℕ) (pseudo : List ℕ → ℕ) (whole : KeyMap) (maps : List KeyMap) : Type 0 where
  pub count : length maps ≡ 2 ^ ward_bits
  pub each : (number : ℕ) (own : KeyMap) → slice_get maps number ≡ Some own → IsPart ward_bits pseudo whole number own

-- the file has this one map
abbrev pub HasMap : OpenedState → KeyMap → Type 0
HasMap file whole = AreParts file.ward_bits (any_pseudokey file.keyer) whole (maps_in file)

-- where a file has one map, the reply is the map machine's over that, and the file then has the map that the call leaves of it
pub record IsOneChange (old : OpenedState) (call : Call) (reply : Reply) (new : OpenedState) (whole : KeyMap) : Type 0 where
  pub reply_is : reply ≡ reply_of old.cap (any_pseudokey old.keyer) whole call
  pub map : HasMap new (map_after old.cap (any_pseudokey old.keyer) whole call)

abbrev pub ChangesOneMap : OpenedState → Call → Reply → OpenedState → Type 0
ChangesOneMap old call reply new = (whole : KeyMap) → HasMap old whole → IsOneChange old call reply new whole
