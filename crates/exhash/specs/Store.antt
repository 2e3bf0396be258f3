-- What a store is when it is opened.
use Rattle.std.specs.Prelude.{◌≡◌, ◌⊎◌, ⊤, Option, None, IsSome, IsTrue}
use Rattle.std.specs.FinMap as fin
use Rattle.exh_keyer.specs.declared.any_keyer.AnyKeyer.{AnyKeyer}
use Rattle.exh_page.specs.FileSettings.{AreInRange, are_same}
use Rattle.exh_page.specs.declared.file_settings.FileSettings.{FileSettings}
use Rattle.exh_map.specs.FileChange.{HasMap}
use Rattle.exh_map.specs.Opened.{OpenedState, settings_in}
use Rattle.exh_map.specs.Sizes.{IsOfCause}
use Rattle.exh_map.specs.declared.store_error.StoreError.{StoreError}
use Rattle.exh_map.specs.declared.store_error.StoreError.TheVariants.{AboveLimit, Exists, OldVersion, ReadOnly, Settings, Unheld, Unsynchronized, Vanished}

-- it has these settings, and no pairs
pub record IsNew (settings : FileSettings AnyKeyer) (map : OpenedState) : Type 0 where
  pub settings_are : IsTrue (are_same (settings_in map) settings)
  pub pairs : HasMap map fin.empty

-- its file is held, or isn't, and then it was opened to be read
abbrev pub IsHeld : {F : Type 0} → Option F → Type 0
IsHeld file = IsSome file

abbrev pub IsReadOnly : {F : Type 0} → Option F → Type 0
IsReadOnly file = file ≡ None

-- ---- errors

-- it is saved, and the store has its file no longer
abbrev pub IsUnheld : StoreError → Type 0
IsUnheld (Unheld error) = ⊤
IsUnheld fault = ⊥

-- a save sees itself that the file is gone, of a version without places, or would be too long; or it is saved, but not held, or
-- its folder isn't synchronized
abbrev pub IsOfFile : StoreError → Type 0
IsOfFile Vanished = ⊤
IsOfFile OldVersion = ⊤
IsOfFile (AboveLimit above) = ⊤
IsOfFile (Unheld error) = ⊤
IsOfFile (Unsynchronized error) = ⊤
IsOfFile fault = ⊥

abbrev pub IsOfSaving : StoreError → Type 0
IsOfSaving fault = IsOfFile fault ⊎ IsOfCause fault

-- a store that was opened to be read isn't committed, and another one is refused by a save alone
abbrev pub IsOfCommit : {F : Type 0} → Option F → StoreError → Type 0
IsOfCommit file fault = ((fault ≡ ReadOnly) × IsReadOnly file) ⊎ IsOfSaving fault

-- a new file has settings that are no file's, or isn't saved or opened; where it is gone by then, it vanished
abbrev pub IsOfNew : FileSettings AnyKeyer → StoreError → Type 0
IsOfNew settings fault = ((fault ≡ Settings) × (AreInRange settings → ⊥)) ⊎ IsOfSaving fault

-- or something is there already
abbrev pub IsOfMaking : FileSettings AnyKeyer → StoreError → Type 0
IsOfMaking settings fault = (fault ≡ Exists) ⊎ IsOfNew settings fault
