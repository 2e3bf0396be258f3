-- The page file of wards as they stand.
use Rattle.std.specs.Prelude.{◌≡◌, ℕ, ◌<◌, ◌≤◌, Bool, List, length, map, slice_get, Some}
use Rattle.std.specs.List.{AllByRecursion, flat_map, sum_by}
use Rattle.std.specs.FinMap.{entries}
use Rattle.exh_prefix.specs.declared.prefix.TheConstants.{LIMIT}
use Rattle.exh_keyer.specs.Pseudokey.{any_pseudokey}
use Rattle.exh_keyer.specs.declared.any_keyer.AnyKeyer.{AnyKeyer}
use Rattle.exh_notice.specs.declared.entry.Entry.{Entry}
use Rattle.exh_page.specs.declared.page.Page.{Page}
use Rattle.exh_page.specs.declared.page.TheConstants.{CAP_LIMIT}
use Rattle.exh_codec.specs.PageImage.{padded}
use Rattle.exh_format.specs.declared.file_entry.FileEntry.{FileEntry}
use Rattle.exh_format.specs.declared.header.Header.{Header}
use Rattle.exh_format.specs.declared.header.TheConstants.{COUNTS_LEN}
use Rattle.exh_format.specs.PageFile.{PageFile}
use Rattle.exh_ward.specs.WardState.{IsSoundWard, IsUnchanged, WardState}
use Rattle.exh_file.specs.Opened.{OpenedState, settings_in}

-- ---- the file

abbrev pub file_entry : ℕ → List Bool × Entry → FileEntry
file_entry ward told = record { ward = ward; prefix = told.0; entry = told.1 }

-- what a ward's table tells now, in the order of prefixes: of its start table and of all changes since
abbrev pub entries_of : WardState AnyKeyer → List FileEntry
entries_of ward = map (file_entry ward.number) (entries ward.table)

-- that of all wards, one after the other
abbrev pub entries_of_all : List (WardState AnyKeyer) → List FileEntry
entries_of_all wards = flat_map entries_of wards

-- the pages of each ward
abbrev pub pages_of_all : List (WardState AnyKeyer) → List (List Page)
pages_of_all wards = map (λ ward. ward.pages) wards

-- how many pages each ward has, and zeros up to sixteen
abbrev pub counts_in : List (WardState AnyKeyer) → List ℕ
counts_in wards = padded COUNTS_LEN (map length (pages_of_all wards))

abbrev pub header_of : OpenedState → Header
header_of opened = record { settings = settings_in opened; entry_count = length (entries_of_all opened.wards); page_counts = counts_in opened.wards }

-- a header, and the pages and tables of wards
abbrev pub file_with : Header → List (WardState AnyKeyer) → PageFile
file_with header wards = record { header = header; wards = pages_of_all wards; entries = entries_of_all wards }

-- the page file of wards as they stand
abbrev pub written_file : OpenedState → PageFile
written_file opened = file_with (header_of opened) opened.wards

-- ---- what is known of wards

abbrev pub AreSound : List (WardState AnyKeyer) → Type 0
AreSound wards = (number : ℕ) (ward : WardState AnyKeyer) → slice_get wards number ≡ Some ward → IsSoundWard any_pseudokey ward

-- no page of theirs may have more records than a page of any file
abbrev pub HasCaps : List (WardState AnyKeyer) → Type 0
HasCaps wards = (number : ℕ) (ward : WardState AnyKeyer) → slice_get wards number ≡ Some ward → ward.cap ≤ CAP_LIMIT

-- each has the number of its place
abbrev pub AreInOrder : List (WardState AnyKeyer) → Type 0
AreInOrder wards = (number : ℕ) (ward : WardState AnyKeyer) → slice_get wards number ≡ Some ward → ward.number ≡ number

-- each entry's prefix has children
abbrev pub AreShort : List FileEntry → Type 0
AreShort items = AllByRecursion (λ item. length item.prefix < LIMIT) items

-- ---- what is left of them

-- nothing but the counts of failures differs
pub record AreUnchanged (old new : List (WardState AnyKeyer)) : Type 0 where
  pub count : length new ≡ length old
  pub each : (number : ℕ) (ward left : WardState AnyKeyer) → slice_get old number ≡ Some ward → slice_get new number ≡ Some left → IsUnchanged ward left

-- the same file's wards, of which nothing but the counts of failures differs
pub record IsLeft (old new : OpenedState) : Type 0 where
  pub settings : new ≡ record old { wards = new.wards }
  pub unchanged : AreUnchanged old.wards new.wards

-- how often a page of any ward couldn't be reached
abbrev pub failures_in : List (WardState AnyKeyer) → ℕ
failures_in wards = sum_by (λ ward. ward.failures) wards

-- a store of these failures has counted more than a ward of these had
abbrev pub HasCountedOf : {P : Type 0} → (P → ℕ) → List (WardState AnyKeyer) → Type 0
HasCountedOf {P} failures wards = (store : P) × (number : ℕ) × (ward : WardState AnyKeyer) × (slice_get wards number ≡ Some ward) × (ward.failures < failures store)
