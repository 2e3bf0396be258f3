-- Laws of header blocks and table blocks, for the crates above: in every version of the page file, or in each that fits.
use Rattle.std.specs.Prelude.{◌≡◌, ◌<◌, ◌≤◌, ℕ, ◌↔◌, ◌++◌, Bool, List, Option, length, slice_index}
use Rattle.std.specs.List.{AllByRecursion}
use Rattle.std.specs.Option.{option_to_list}
use Rattle.exh_prefix.specs.Version.{Version, Fits}
use Rattle.exh_codec.specs.declared.block.TheConstants.{BLOCK_LEN}
use Rattle.exh_format.specs.declared.file_entry.FileEntry.{FileEntry}
use Rattle.exh_format.specs.declared.header.Header.{Header}
use Rattle.exh_format.specs.declared.table_block.TheConstants.{BLOCK_ENTRIES}
use Rattle.exh_format.specs.FileVersion.{FileVersion, FitsFile}
use Rattle.exh_format.specs.HeaderImage.{IsHeader, IsHeaderImage}
use Rattle.exh_format.specs.HeaderTests.{PassesHeader, header_tests}
use Rattle.exh_format.specs.TableImage.{AreRising, IsFileEntry, IsTableImage, prefixes_of}
use Rattle.exh_format.specs.TableTests.{PassesTable, table_tests}

-- the block is an image, and no other is
pub record IsOneImage (IsImage : List ℕ → Type 0) (block : List ℕ) : Type 0 where
  pub image : IsImage block
  pub only : (other : List ℕ) → IsImage other → other ≡ block

-- the block is the image of so many entries, which rise from the one before them
pub record IsOfTable (version : Version) (count : ℕ) (before : Option (List Bool)) (entries : List FileEntry) (block : List ℕ) : Type 0 where
  pub image : IsTableImage version entries block
  pub all : length entries ≡ count
  pub rising : AreRising (option_to_list before ++ prefixes_of entries)

-- a header that a file may have has exactly one image, and so have at most 254 entries that a file may have
abbrev pub OneHeaderImage : Type 0
OneHeaderImage = (version : FileVersion) (header : Header) → IsHeader version header → (block : List ℕ) × IsOneImage (IsHeaderImage version header) block

abbrev pub OneTableImage : Type 0
OneTableImage = (version : Version) (entries : List FileEntry) → length entries ≤ BLOCK_ENTRIES → AllByRecursion (IsFileEntry version) entries
    → (block : List ℕ) × IsOneImage (IsTableImage version entries) block

-- an image is that of one header, or of one list of entries
abbrev pub OneHeader : Type 0
OneHeader = (version : FileVersion) → FitsFile version → (block : List ℕ) (one other : Header) → IsHeaderImage version one block → IsHeaderImage version other block → one ≡ other

abbrev pub OneTable : Type 0
OneTable = (version : Version) → Fits 4 version → (block : List ℕ) (one other : List FileEntry) → IsTableImage version one block → IsTableImage version other block → one ≡ other

-- a block of bytes is an image exactly where it passes all tests
abbrev pub HeadersPass : Type 0
HeadersPass = (version : FileVersion) → FitsFile version → (block : List ℕ) → length block ≡ BLOCK_LEN → ((i : ℕ) → slice_index block i < 256)
    → ((header : Header) × IsHeaderImage version header block) ↔ AllByRecursion (PassesHeader version block) header_tests

abbrev pub TablesPass : Type 0
TablesPass = (version : Version) → Fits 4 version → (count : ℕ) (before : Option (List Bool)) (block : List ℕ) → length block ≡ BLOCK_LEN → ((i : ℕ) → slice_index block i < 256)
    → count ≤ BLOCK_ENTRIES → ((entries : List FileEntry) × IsOfTable version count before entries block) ↔ AllByRecursion (PassesTable version count before block) (table_tests count)

-- an image has the length of a block
abbrev pub HeadersAreBlocks : Type 0
HeadersAreBlocks = (version : FileVersion) (header : Header) (block : List ℕ) → IsHeaderImage version header block → length block ≡ BLOCK_LEN

abbrev pub TablesAreBlocks : Type 0
TablesAreBlocks = (version : Version) → Fits 4 version → (entries : List FileEntry) (block : List ℕ) → IsTableImage version entries block → length block ≡ BLOCK_LEN
