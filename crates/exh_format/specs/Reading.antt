-- What reads of a file give: contracts of private functions, and what one answers that isn't a file.
use Rattle.std.specs.Prelude.{◌≡◌, ⊤, ℕ, ◌+◌, ◌-◌, ◌*◌, ◌<◌, min, Bool, List, [], ◌∷◌, ◌++◌, Option, None, Some, length, IfSome}
use Rattle.std.specs.List.{AllByRecursion, flat_map}
use Rattle.std.specs.Io.KnownBytes.{Consumes}
use Rattle.exh_prefix.specs.Version.{Version}
use Rattle.exh_stream.specs.Source.{reader_failed, unread}
use Rattle.exh_legal.specs.declared.Page.{Page}
use Rattle.exh_codec.specs.PageImage.{IsPage}
use Rattle.exh_codec.specs.declared.block.TheConstants.{BLOCK_LEN}
use Rattle.exh_format.specs.declared.file_entry.FileEntry.{FileEntry}
use Rattle.exh_format.specs.declared.file_fault.FileFault.{FileFault}
use Rattle.exh_format.specs.declared.table_block.TheConstants.{BLOCK_ENTRIES}
use Rattle.exh_format.specs.TableImage.{AreRising, IsFileEntry, prefixes_of}
use Rattle.exh_format.specs.declared.block_source.BlockSource.{BlockSource}
use Rattle.exh_format.specs.declared.read_file_fault.ReadFileFault.{ReadFileFault}
use Rattle.exh_format.specs.declared.read_file_fault.ReadFileFault.TheVariants.{File, Memory, Read}
use Rattle.exh_format.specs.PageFile.{page_block, table_bytes}
use Rattle.exh_format.specs.FileTests.{NextFails, PageFails, TableFails}

-- the bytes that the reader has left, where they are known
abbrev pub left : {R : Type 0} → (R → Option (List ℕ)) → BlockSource R → Option (List ℕ)
left remaining blocks = unread remaining blocks.source

-- a read of the blocks failed
abbrev pub blocks_failed : {R : Type 0} → BlockSource R → Bool
blocks_failed blocks = reader_failed blocks.source

abbrev pub AreBytes : List ℕ → Type 0
AreBytes bytes = AllByRecursion (λ byte. byte < 256) bytes

-- a block as it is read
abbrev pub IsBlock : List ℕ → Type 0
IsBlock block = (length block ≡ BLOCK_LEN) × AreBytes block

-- the fault, if it is one of a file, is such a one of the bytes, where they are known
abbrev pub IsOf : (List ℕ → FileFault → Type 0) → Option (List ℕ) → ReadFileFault → Type 0
IsOf Fails known (File fault) = IfSome known (λ bytes. Fails bytes fault)
IsOf Fails known Memory = ⊤
IsOf Fails known Read = ⊤

-- the pages' blocks were given
pub record GivesPages (version : Version) (pseudo : List ℕ → ℕ) (old new : Option (List ℕ)) (pages : List Page) : Type 0 where
  pub given : Consumes old new (flat_map page_block pages)
  pub are_bytes : AreBytes (flat_map page_block pages)
  pub valid : AllByRecursion (IsPage version pseudo) pages

-- behind the blocks of some pages, fewer than there are to be, stands one that is cut short or fails
pub record FailsInPages (version : Version) (pseudo : List ℕ → ℕ) (place count : ℕ) (bytes : List ℕ) (fault : FileFault) : Type 0 where
  pub pages : List Page
  pub rest : List ℕ
  pub fewer : length pages < count
  pub whole : bytes ≡ flat_map page_block pages ++ rest
  pub are_bytes : AreBytes (flat_map page_block pages)
  pub valid : AllByRecursion (IsPage version pseudo) pages
  pub fails : NextFails (PageFails version pseudo (place + length pages)) rest fault

-- the prefix of the last entry, or the one before them where there is none
abbrev pub last_prefix : Option (List Bool) → List FileEntry → Option (List Bool)
last_prefix before [] = before
last_prefix before (item ∷ entries) = last_prefix (Some item.prefix) entries

-- so many blocks of entries were given
pub record GivesEntries (version : Version) (old new : Option (List ℕ)) (blocks : ℕ) (entries : List FileEntry) : Type 0 where
  pub given : Consumes old new (table_bytes version blocks entries)
  pub are_bytes : AreBytes (table_bytes version blocks entries)
  pub valid : AllByRecursion (IsFileEntry version) entries
  pub rising : AreRising (prefixes_of entries)

-- behind some full blocks, fewer entries than there are to be, stands one that is cut short or fails
pub record FailsInTable (version : Version) (place count : ℕ) (bytes : List ℕ) (fault : FileFault) : Type 0 where
  pub blocks : ℕ
  pub entries : List FileEntry
  pub rest : List ℕ
  pub fewer : length entries < count
  pub full : length entries ≡ BLOCK_ENTRIES * blocks
  pub whole : bytes ≡ table_bytes version blocks entries ++ rest
  pub are_bytes : AreBytes (table_bytes version blocks entries)
  pub valid : AllByRecursion (IsFileEntry version) entries
  pub rising : AreRising (prefixes_of entries)
  pub fails : NextFails (TableFails version (place + blocks) (min BLOCK_ENTRIES (count - length entries)) (last_prefix None entries)) rest fault

-- known bytes are these
abbrev pub IsAll : Option (List ℕ) → List ℕ → Type 0
IsAll known bytes = IfSome known (λ all. all ≡ bytes)

-- the fault isn't one of a file
abbrev pub IsOther : ReadFileFault → Type 0
IsOther (File fault) = ⊥
IsOther Memory = ⊤
IsOther Read = ⊤
