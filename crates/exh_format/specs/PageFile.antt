-- A whole page file, in each version: what it says, and the bytes that say it.
use Rattle.std.specs.Prelude.{◌≡◌, ℕ, zero, suc, ◌+◌, ◌-◌, ◌/◌, ◌^◌, List, [], ◌++◌, length, map, take, drop}
use Rattle.std.specs.List.{AllByRecursion, flat_map}
use Rattle.exh_prefix.specs.declared.version.Version.{Version as KnownVersion}
use Rattle.exh_prefix.specs.Version.{Version}
use Rattle.exh_keyer.specs.Pseudokey.{any_pseudokey}
use Rattle.exh_legal.specs.declared.Page.{Page}
use Rattle.exh_codec.specs.declared.block.TheConstants.{CONTENT_LEN}
use Rattle.exh_codec.specs.Block.{sealed}
use Rattle.exh_codec.specs.PageImage.{IsPage, content_of, padded}
use Rattle.exh_format.specs.declared.file_entry.FileEntry.{FileEntry}
use Rattle.exh_format.specs.declared.header.Header.{Header}
use Rattle.exh_format.specs.declared.table_block.TheConstants.{BLOCK_ENTRIES}
use Rattle.exh_format.specs.FileVersion.{FileVersion, file_version}
use Rattle.exh_format.specs.HeaderImage.{IsHeader, header_bytes}
use Rattle.exh_format.specs.TableImage.{AreRising, IsFileEntry, image_of, prefixes_of}

-- its header, the pages of each ward in the order of their numbers, and its table
pub record PageFile : Type 0 where
  pub header : Header
  pub wards : List (List Page)
  pub entries : List FileEntry

abbrev pub pages_of : List (List Page) → List Page
pages_of wards = flat_map (λ ward. ward) wards

-- ---- its blocks

unfoldable pub header_block : FileVersion → Header → List ℕ
header_block version header = sealed (padded CONTENT_LEN (header_bytes version header))

unfoldable pub page_block : Page → List ℕ
page_block page = sealed (content_of page)

unfoldable pub table_block : Version → List FileEntry → List ℕ
table_block version entries = sealed (padded CONTENT_LEN (flat_map (image_of version) entries))

-- so many blocks of a table: each has as many entries as there is room for, the last the others
abbrev pub table_bytes : Version → ℕ → List FileEntry → List ℕ
table_bytes version zero entries = []
table_bytes version (suc blocks) entries = table_block version (take BLOCK_ENTRIES entries) ++ table_bytes version blocks (drop BLOCK_ENTRIES entries)

-- how many blocks so many entries take: none without an entry
abbrev pub table_blocks : ℕ → ℕ
table_blocks count = (count + (BLOCK_ENTRIES - 1)) / BLOCK_ENTRIES

-- ---- its bytes

-- the header tells how many pages each ward has, and how many entries there are
pub record IsFile (version : FileVersion) (file : PageFile) : Type 0 where
  pub header : IsHeader version file.header
  pub counts : map length file.wards ≡ take (2 ^ file.header.settings.ward_bits) file.header.page_counts
  pub pages : AllByRecursion (IsPage version.images (any_pseudokey file.header.settings.keyer)) (pages_of file.wards)
  pub count : length file.entries ≡ file.header.entry_count
  pub entries : AllByRecursion (IsFileEntry version.images) file.entries
  pub rising : AreRising (prefixes_of file.entries)

-- a version that the code knows may have the file
abbrev pub IsKnownFile : PageFile → Type 0
IsKnownFile file = (version : KnownVersion) × IsFile (file_version version) file

abbrev pub file_bytes : FileVersion → PageFile → List ℕ
file_bytes version file =
    header_block version file.header ++ (flat_map page_block (pages_of file.wards) ++ table_bytes version.images (table_blocks (length file.entries)) file.entries)

-- the bytes are those of the file
pub record IsPageFile (version : FileVersion) (file : PageFile) (bytes : List ℕ) : Type 0 where
  pub valid : IsFile version file
  pub whole : bytes ≡ file_bytes version file
