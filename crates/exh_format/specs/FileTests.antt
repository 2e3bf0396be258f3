-- The tests of a page file in their order, over all of its bytes, in each version.
use Rattle.std.specs.Prelude.{◌≡◌, ℕ, zero, suc, ◌+◌, ◌-◌, ◌*◌, ◌<◌, ◌≤◌, ◌⊎◌, min, Bool, true, false, cond, List, [], ◌∷◌, ◌++◌, Option, None, Some, length, take, drop, slice_index}
use Rattle.std.specs.List.{AllByRecursion, sum}
use Rattle.byteorder.specs.Endian.{big_from}
use Rattle.exh_prefix.specs.Bits.{word_bits}
use Rattle.exh_prefix.specs.Version.{Version, field_low}
use Rattle.exh_keyer.specs.Pseudokey.{any_pseudokey}
use Rattle.exh_codec.specs.declared.block.TheConstants.{BLOCK_LEN}
use Rattle.exh_codec.specs.declared.image_fault.ImageFault.{ImageFault}
use Rattle.exh_codec.specs.ImageTests.{IsFirst, Passes, image_tests}
use Rattle.exh_format.specs.declared.file_fault.FileFault.{FileFault}
use Rattle.exh_format.specs.declared.file_fault.FileFault.TheVariants as faults
use Rattle.exh_format.specs.declared.header.Header.{Header}
use Rattle.exh_format.specs.declared.table_block.TheConstants.{BLOCK_ENTRIES}
use Rattle.exh_format.specs.FileVersion.{FileVersion, format_of}
use Rattle.exh_format.specs.FirstFailing.{IsFirstFailing}
use Rattle.exh_format.specs.HeaderImage.{IsHeaderImage}
use Rattle.exh_format.specs.HeaderTests.{PassesHeader, header_tests}
use Rattle.exh_format.specs.TableTests.{IsFirstFault, PassesTable, entry_bytes, table_tests}
use Rattle.exh_format.specs.PageFile.{table_blocks}

-- ---- places

-- what stands behind the header: a page, so many entries of the table, which begins there or doesn't, and the end
pub data FilePlace : Type 0 where
  OfPage : (place : ℕ) → FilePlace
  OfTable : (place : ℕ) → (begins : Bool) → (count : ℕ) → FilePlace
  End : (place : ℕ) → FilePlace

abbrev pub page_places : ℕ → ℕ → List FilePlace
page_places place zero = []
page_places place (suc count) = OfPage place ∷ page_places (suc place) count

-- so many blocks of a table of so many entries: each has as many as there is room for, the last the others
abbrev pub table_places : ℕ → Bool → ℕ → ℕ → List FilePlace
table_places place begins zero count = []
table_places place begins (suc blocks) count = OfTable place begins (min BLOCK_ENTRIES count) ∷ table_places (suc place) false blocks (count - BLOCK_ENTRIES)

-- those of a file with this header, which is the block of place 0
abbrev pub places_behind : Header → List FilePlace
places_behind header =
    let pages = sum header.page_counts in
    let blocks = table_blocks header.entry_count in
    page_places 1 pages ++ (table_places (1 + pages) true blocks header.entry_count ++ End (1 + pages + blocks) ∷ [])

-- ---- blocks

abbrev pub bytes_from : ℕ → List ℕ → List ℕ
bytes_from place bytes = drop (BLOCK_LEN * place) bytes

abbrev pub block_at : ℕ → List ℕ → List ℕ
block_at place bytes = take BLOCK_LEN (bytes_from place bytes)

abbrev pub IsWhole : ℕ → List ℕ → Type 0
IsWhole place bytes = BLOCK_LEN ≤ length (bytes_from place bytes)

-- the prefix that an entry's image says
abbrev pub prefix_in : Version → List ℕ → List Bool
prefix_in version image = take (slice_index image 2) (word_bits (field_low version (big_from 4 version.bytes image)))

-- that of the last entry of a block that is full of them
abbrev pub last_prefix_in : Version → List ℕ → List Bool
last_prefix_in version block = prefix_in version (entry_bytes (BLOCK_ENTRIES - 1) block)

-- the prefix before those of a table block: that of the last entry of the block before it, if that is one of the table
abbrev pub prefix_before : Version → ℕ → Bool → List ℕ → Option (List Bool)
prefix_before version place begins bytes = cond begins None (Some (last_prefix_in version (block_at (place - 1) bytes)))

-- ---- their tests

-- bytes pass what is asked of a place
abbrev pub PassesAt : FileVersion → (List ℕ → ℕ) → List ℕ → FilePlace → Type 0
PassesAt version pseudo bytes (OfPage place) = IsWhole place bytes × AllByRecursion (Passes version.images pseudo (block_at place bytes)) image_tests
PassesAt version pseudo bytes (OfTable place begins count) =
    IsWhole place bytes × AllByRecursion (PassesTable version.images count (prefix_before version.images place begins bytes) (block_at place bytes)) (table_tests count)
PassesAt version pseudo bytes (End place) = bytes_from place bytes ≡ []

-- of the bytes from a block on, the block ends early, or is whole and fails
abbrev pub NextFails : (List ℕ → FileFault → Type 0) → List ℕ → FileFault → Type 0
NextFails Fails bytes fault = ((length bytes < BLOCK_LEN) × (fault ≡ faults.Truncated)) ⊎ ((BLOCK_LEN ≤ length bytes) × Fails (take BLOCK_LEN bytes) fault)

-- the fault names the first test that a block fails, and its place
abbrev pub HeaderFails : FileVersion → List ℕ → FileFault → Type 0
HeaderFails version block fault = IsFirstFailing (PassesHeader version block) header_tests fault

abbrev pub PageFails : Version → (List ℕ → ℕ) → ℕ → List ℕ → FileFault → Type 0
PageFails version pseudo place block fault = (image : ImageFault) × (IsFirst (Passes version pseudo block) image_tests image) × (fault ≡ faults.Block place image)

abbrev pub TableFails : Version → ℕ → ℕ → Option (List Bool) → List ℕ → FileFault → Type 0
TableFails version place count before block fault = (image : ImageFault) × (IsFirstFault version count before block image) × (fault ≡ faults.Block place image)

-- bytes fail what is asked of a place, first by this fault
abbrev pub FailsAt : FileVersion → (List ℕ → ℕ) → List ℕ → FilePlace → FileFault → Type 0
FailsAt version pseudo bytes (OfPage place) fault = NextFails (PageFails version.images pseudo place) (bytes_from place bytes) fault
FailsAt version pseudo bytes (OfTable place begins count) fault =
    NextFails (TableFails version.images place count (prefix_before version.images place begins bytes)) (bytes_from place bytes) fault
FailsAt version pseudo bytes (End place) fault = (0 < length (bytes_from place bytes)) × (fault ≡ faults.Trailing)

-- ---- their order

-- of places in their order, the fault is that of the first at which the bytes fail
pub record FileFailsFirst (version : FileVersion) (pseudo : List ℕ → ℕ) (bytes : List ℕ) (places : List FilePlace) (fault : FileFault) : Type 0 where
  pub before : List FilePlace
  pub place : FilePlace
  pub after : List FilePlace
  pub stands : places ≡ before ++ place ∷ after
  pub passed : AllByRecursion (PassesAt version pseudo bytes) before
  pub fails : FailsAt version pseudo bytes place fault

-- the bytes pass all tests
abbrev pub PassesFile : FileVersion → List ℕ → Header → Type 0
PassesFile version bytes header = IsWhole 0 bytes × IsHeaderImage version header (block_at 0 bytes) × AllByRecursion (PassesAt version (any_pseudokey header.settings.keyer) bytes) (places_behind header)

-- the fault is that of the first test that the bytes fail: one of the header, or one behind it, which says what follows
abbrev pub IsFileFault : FileVersion → List ℕ → FileFault → Type 0
IsFileFault version bytes fault = NextFails (HeaderFails version) bytes fault
    ⊎ ((header : Header) × IsHeaderImage version header (block_at 0 bytes) × FileFailsFirst version (any_pseudokey header.settings.keyer) bytes (places_behind header) fault)

-- that in the version which the bytes say
abbrev pub IsFault : List ℕ → FileFault → Type 0
IsFault bytes fault = IsFileFault (format_of bytes) bytes fault
