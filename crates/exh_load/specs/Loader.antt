-- The wards of a file that pairs are put into, each with its directory.
use Rattle.std.specs.Prelude.{◌≡◌, ◌⊎◌, ℕ, ◌≤◌, List, length, slice_get, slice_set, Some}
use Rattle.std.specs.FinMap as map
use Rattle.exh_keyer.specs.declared.any_keyer.AnyKeyer.{AnyKeyer}
use Rattle.exh_array.specs.Pointers.{DirectoryState}
use Rattle.exh_page.specs.declared.file_settings.FileSettings.{FileSettings}
use Rattle.exh_ward.specs.NewWards.{new_wards}
use Rattle.exh_calls.specs.declared.call.Call.{Call}
use Rattle.exh_calls.specs.declared.call.Call.TheVariants.{Put}
use Rattle.exh_calls.specs.declared.reply.Reply.{Reply}
use Rattle.exh_keyer.specs.Pseudokey.{any_pseudokey}
use Rattle.exh_ward.specs.WardState.{WardState, history_begun}
use Rattle.exh_file.specs.Opened.{OpenedState, in_file}
use Rattle.exh_file.specs.FileChange.{ward_in}
use Rattle.exh_file.specs.WardChange.{AreSplitsAtMost, IsChanged}
use Rattle.exh_load.specs.Put.{IsDirectoryOf}
use Rattle.exh_load.specs.declared.history.TheConstants.{HISTORY_LEN}

pub record LoaderState : Type 0 where
  pub cap : ℕ
  pub ward_bits : ℕ
  pub keyer : AnyKeyer
  pub wards : List (WardState AnyKeyer)
  pub directories : List DirectoryState

-- the wards as those of a file
abbrev pub file_in : LoaderState → OpenedState
file_in loader = record { cap = loader.cap; ward_bits = loader.ward_bits; keyer = loader.keyer; wards = loader.wards }

-- each ward has a directory, which was told of all the ward's notices and of no others
pub record IsLoading (loader : LoaderState) : Type 0 where
  pub count : length loader.directories ≡ length loader.wards
  pub told : (number : ℕ) (ward : WardState AnyKeyer) (directory : DirectoryState) → slice_get loader.wards number ≡ Some ward → slice_get loader.directories number ≡ Some directory
      → IsDirectoryOf ward directory

-- no pair was put yet
abbrev pub IsEmptyLoader : FileSettings AnyKeyer → LoaderState → Type 0
IsEmptyLoader settings loader = file_in loader ≡ in_file settings (new_wards settings)

-- the journal has at least as many entries as the base has pairs, and some
pub record IsOutgrown {K : Type 0} (ward : WardState K) : Type 0 where
  pub pairs : map.len ward.base ≤ length ward.journal
  pub some : HISTORY_LEN ≤ length ward.journal

-- the history began anew, since the journal had outgrown the base; or the ward is as it was
abbrev pub MayHaveBegun : {K : Type 0} → WardState K → WardState K → Type 0
MayHaveBegun old new = (IsOutgrown old × (new ≡ history_begun old)) ⊎ (new ≡ old)

-- a ward answered a call, before which its history may have begun anew
pub record IsAnsweredAnew {K : Type 0} (pseudokey_of : K → List ℕ → ℕ) (old : WardState K) (call : Call) (reply : Reply) (new : WardState K) : Type 0 where
  pub begun : WardState K
  pub history : MayHaveBegun old begun
  pub changed : IsChanged pseudokey_of begun call reply new

-- pages of a ward may have been split, before which its history may have begun anew, and its count of page faults may be another
pub record AreSplitsAnew {K : Type 0} (old new : WardState K) : Type 0 where
  pub begun : WardState K
  pub history : MayHaveBegun old begun
  pub splits : AreSplitsAtMost begun new

-- the ward of the key answered the put, before which its history may have begun anew; the other wards and the settings are as before
pub record IsPutIn (old : OpenedState) (key value : List ℕ) (reply : Reply) (new : OpenedState) : Type 0 where
  pub ward : WardState AnyKeyer
  pub after : WardState AnyKeyer
  pub there : slice_get old.wards (ward_in old key) ≡ Some ward
  pub answered : IsAnsweredAnew any_pseudokey ward (Put key value) reply after
  pub others : new ≡ record old { wards = slice_set old.wards (ward_in old key) after }

-- pages of the ward of a key may have been split, before which its history may have begun anew, and its count of page faults may be another; the other wards are as
-- before
pub record HasSplitsIn (old : LoaderState) (key : List ℕ) (new : LoaderState) : Type 0 where
  pub ward : WardState AnyKeyer
  pub after : WardState AnyKeyer
  pub there : slice_get old.wards (ward_in (file_in old) key) ≡ Some ward
  pub splits : AreSplitsAnew ward after
  pub others : file_in new ≡ record (file_in old) { wards = slice_set old.wards (ward_in (file_in old) key) after }

-- ---- of private functions

-- as many as that, and each has its number's property
pub record AreEach {A : Type 0} (P : ℕ → A → Type 0) (count : ℕ) (items : List A) : Type 0 where
  pub count_is : length items ≡ count
  pub each : (number : ℕ) (item : A) → slice_get items number ≡ Some item → P number item

-- a directory of no entry
pub record IsEmptyDirectory (ward_bits : ℕ) (directory : DirectoryState) : Type 0 where
  pub table : directory.table ≡ map.empty
  pub bits : directory.pointers.ward_bits ≡ ward_bits

-- a directory of the table of that ward of a file
abbrev pub IsDirectoryAt : ℕ → List (WardState AnyKeyer) → ℕ → DirectoryState → Type 0
IsDirectoryAt ward_bits wards number directory = (ward : WardState AnyKeyer) → slice_get wards number ≡ Some ward → (directory.table ≡ ward.table) × (directory.pointers.ward_bits ≡ ward_bits)
