-- Laws of whole files, for the crates above: in every version of the page file that fits.
use Rattle.std.specs.Prelude.{◌≡◌, ◌++◌, List, ℕ, Some, drop, length}
use Rattle.std.specs.Io.KnownBytes.{Appends}
use Rattle.std.specs.List.{AllByRecursion, flat_map}
use Rattle.exh_prefix.specs.Version.{Version, Fits}
use Rattle.exh_format.specs.FileVersion.{FileVersion, FitsFile}
use Rattle.exh_format.specs.declared.file_fault.FileFault.{FileFault}
use Rattle.exh_format.specs.declared.header.Header.{Header}
use Rattle.exh_format.specs.TableImage.{IsFileEntry}
use Rattle.exh_format.specs.FileTests.{IsFileFault, PassesFile}
use Rattle.exh_format.specs.Reading.{AreBytes}
use Rattle.exh_format.specs.PageFile.{IsFile, IsPageFile, PageFile, file_bytes, page_block, pages_of, table_blocks, table_bytes}

-- a file has exactly one list of bytes
abbrev pub OneFileImage : Type 0
OneFileImage = (version : FileVersion) (file : PageFile) → IsFile version file → (bytes : List ℕ) × IsPageFile version file bytes × ((other : List ℕ) → IsPageFile version file other → other ≡ bytes)

-- and bytes are those of one file
abbrev pub OneFile : Type 0
OneFile = (version : FileVersion) → FitsFile version → (bytes : List ℕ) (one other : PageFile) → IsPageFile version one bytes → IsPageFile version other bytes → one ≡ other

-- the bytes of a file pass all tests
abbrev pub FilesPass : Type 0
FilesPass = (version : FileVersion) → FitsFile version → (file : PageFile) (bytes : List ℕ) → AreBytes bytes → IsPageFile version file bytes → PassesFile version bytes file.header

-- where all are passed there is no fault
abbrev pub PassedHasNoFault : Type 0
PassedHasNoFault = (version : FileVersion) → FitsFile version → (header : Header) (bytes : List ℕ) (fault : FileFault) → AreBytes bytes → PassesFile version bytes header → IsFileFault version bytes fault → ⊥

-- what a writer got of a file that was written whole, behind what it held, is that file
abbrev pub WrittenIsFile : Type 0
WrittenIsFile = (version : FileVersion) (file : PageFile) → IsFile version file → (old new : List ℕ) → Appends (Some old) (Some new) (file_bytes version file) → IsPageFile version file (drop (length old) new)

-- the blocks behind the header's: those of the pages, and those of the table
abbrev pub blocks_behind : Version → PageFile → List ℕ
blocks_behind version file = flat_map page_block (pages_of file.wards) ++ table_bytes version (table_blocks (length file.entries)) file.entries

-- they have the same bytes in each version that may have the file's entries
abbrev pub SameBlocks : Type 0
SameBlocks = (one other : Version) → Fits 4 one → Fits 4 other → (file : PageFile) → AllByRecursion (IsFileEntry one) file.entries → AllByRecursion (IsFileEntry other) file.entries → blocks_behind one file ≡ blocks_behind other file
