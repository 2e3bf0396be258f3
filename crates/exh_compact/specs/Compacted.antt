-- What a file that is made anew of pairs has, or which keys have no room in it.
use Rattle.std.specs.Prelude.{◌≡◌, ◌≢◌, ◌⊎◌, ℕ, List, [], length, sum_by, unwrap_or}
use Rattle.std.specs.FinMap.{from_entries}
use Rattle.exh_keyer.specs.Pseudokey.{any_pseudokey}
use Rattle.exh_keyer.specs.declared.any_keyer.AnyKeyer.{AnyKeyer}
use Rattle.exh_page.specs.FileSettings.{AreInRange}
use Rattle.exh_page.specs.declared.file_settings.FileSettings.{FileSettings}
use Rattle.exhash.specs.FileChange.{HasMap}
use Rattle.exhash.specs.Opened.{OpenedState, settings_in}
use Rattle.exhash.specs.CallFault.{IsWardFault}
use Rattle.exhash.specs.FileMap.{KeepsMap}
use Rattle.exhash.specs.Pairs.{pairs_in}
use Rattle.exhash.specs.Sizes.{IsOfOpening}
use Rattle.exhash.specs.declared.StoreError.{StoreError}
use Rattle.exhash.specs.declared.StoreError.TheVariants.{Settings}
use Rattle.exhash.specs.Store.{IsOfSaving}
use Rattle.exh_ward.specs.WardState.{WardState}
use Rattle.exh_compact.specs.Needed.{AreAllNeeded}
use Rattle.exh_compact.specs.Room.{without_room}
use Rattle.exh_compact.specs.declared.compact_options.CompactOptions.{CompactOptions}
use Rattle.exh_compact.specs.declared.compacted.Compacted.{Compacted}
use Rattle.exh_compact.specs.declared.compacted.Compacted.TheVariants.{Wards, Full}

-- a file's settings, but for those that are given in their place
abbrev pub settings_over : CompactOptions → FileSettings AnyKeyer → FileSettings AnyKeyer
settings_over options own = record { cap = unwrap_or options.cap own.cap; ward_bits = unwrap_or options.ward_bits own.ward_bits; keyer = unwrap_or options.keyer own.keyer }

-- the keys of pairs that have no room in a file of these settings
abbrev pub full_keys : FileSettings AnyKeyer → List (List ℕ × List ℕ) → List (List ℕ)
full_keys settings pairs = without_room settings.cap (any_pseudokey settings.keyer) [] pairs

-- a file of these settings, whose map is the one that has the facts of `Has`, and whose pages are those that its pairs need
pub record IsMade (settings : FileSettings AnyKeyer) (Has : OpenedState → Type 0) (new : OpenedState) : Type 0 where
  pub settings_are : settings_in new ≡ settings
  pub has : Has new
  pub needed : AreAllNeeded new.wards

-- of pairs: all have room, and are in the file; or some have none, and these are named in their order
abbrev pub IsMadeOf : (OpenedState → Type 0) → List (List ℕ × List ℕ) → FileSettings AnyKeyer → Compacted → Type 0
IsMadeOf Has pairs settings (Wards new records) = (full_keys settings pairs ≡ []) × (records ≡ length pairs) × IsMade settings Has new
IsMadeOf Has pairs settings (Full keys) = (full_keys settings pairs ≡ keys.items) × (keys.items ≢ [])

-- the pairs of a file, in a new one that has the same map
abbrev pub IsCompacted : OpenedState → FileSettings AnyKeyer → Compacted → Type 0
IsCompacted old settings compacted = IsMadeOf (KeepsMap old) (pairs_in old.wards) settings compacted

-- pairs, in a new file that has the map of them
abbrev pub IsFilled : List (List ℕ × List ℕ) → FileSettings AnyKeyer → Compacted → Type 0
IsFilled pairs settings compacted = IsMadeOf (λ new. HasMap new (from_entries pairs)) pairs settings compacted

-- ---- errors

-- the settings are no file's, or a ward refused
abbrev pub IsOfFilling : FileSettings AnyKeyer → StoreError → Type 0
IsOfFilling settings fault = ((fault ≡ Settings) × (AreInRange settings → ⊥)) ⊎ IsWardFault fault

-- a file isn't opened, its pairs aren't put into a new one, or that isn't saved in its place
abbrev pub IsOfCompacting : StoreError → Type 0
IsOfCompacting fault = IsOfOpening fault ⊎ ((settings : FileSettings AnyKeyer) × IsOfFilling settings fault) ⊎ IsOfSaving fault

-- how many pages wards have, live and forwarding ones
abbrev pub pages_in : {K : Type 0} → List (WardState K) → ℕ
pages_in wards = sum_by (λ ward. length ward.pages) wards
