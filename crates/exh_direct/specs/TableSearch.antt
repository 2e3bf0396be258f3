-- What some blocks of a table tell: the entry at a prefix or that there is none, and where the walk for a pseudokey ends.
use Rattle.std.specs.Prelude.{◌≡◌, ◌⊎◌, ℕ, zero, suc, ◌+◌, ◌-◌, ◌*◌, ◌<◌, ◌≤◌, nat_eq, min, Bool, false, cond, List, ◌++◌, Option, None, Some, length, map, take, get_or, slice_get}
use Rattle.std.specs.List.{AllByRecursion, IsDistinct, list_any, sum}
use Rattle.std.specs.declared.cmp.Ordering.TheVariants.{Less, Greater}
use Rattle.std.specs.Io.KnownBytes.{Appends}
use Rattle.exh_prefix.specs.Bits.{word_bits}
use Rattle.exh_prefix.specs.Leading.{ward_of}
use Rattle.exh_prefix.specs.Prefix.{Begins, prefix_cmp}
use Rattle.exh_prefix.specs.declared.prefix.TheConstants.{LIMIT}
use Rattle.exh_format.specs.declared.Leaf.{Leaf}
use Rattle.exh_format.specs.TableWalk.{right_of_kind, step}
use Rattle.exh_format.specs.declared.file_entry.FileEntry.{FileEntry}
use Rattle.exh_format.specs.declared.header.Header.{Header}
use Rattle.exh_format.specs.declared.table_block.TheConstants.{BLOCK_ENTRIES}
use Rattle.exh_format.specs.FileVersion.{FileVersion}
use Rattle.exh_format.specs.FileTests.{TableFails}
use Rattle.exh_format.specs.TableImage.{AreRising, prefixes_of}
use Rattle.exh_format.specs.PageFile.{table_blocks}
use Rattle.exh_direct.specs.declared.direct_fault.DirectFault.{DirectFault}
use Rattle.exh_direct.specs.declared.side.Side.{Side}
use Rattle.exh_direct.specs.declared.side.Side.TheVariants.{Among, Before, Behind}
use Rattle.exh_direct.specs.declared.table_block.TableBlock.{TableBlock}
use Rattle.exh_direct.specs.KnownBlocks.{BlockFails, IsTableBlock, MayRead}

-- ---- blocks that were read

-- the table stands behind the header and all pages
abbrev pub table_place : Header → ℕ
table_place header = 1 + sum header.page_counts

-- how many entries the table has in the block of a number
abbrev pub entries_in : Header → ℕ → ℕ
entries_in header number = min BLOCK_ENTRIES (header.entry_count - BLOCK_ENTRIES * number)

-- the table's block of its number: as many entries as it has there, which rise
pub record IsBlockOf (version : FileVersion) (known : Option (List ℕ)) (header : Header) (block : TableBlock) : Type 0 where
  pub within : block.number < table_blocks header.entry_count
  pub count : length block.entries.items ≡ entries_in header block.number
  pub rising : AreRising (prefixes_of block.entries.items)
  pub is : IsTableBlock version.images known (table_place header + block.number) block.entries.items

abbrev pub numbers_of : List TableBlock → List ℕ
numbers_of blocks = map (λ block. block.number) blocks

-- each is, and none stands twice
pub record AreBlocksOf (version : FileVersion) (known : Option (List ℕ)) (header : Header) (blocks : List TableBlock) : Type 0 where
  pub each : AllByRecursion (IsBlockOf version known header) blocks
  pub once : IsDistinct nat_eq (numbers_of blocks)

abbrev pub places_in : Header → List TableBlock → List ℕ
places_in header blocks = map (λ block. table_place header + block.number) blocks

-- the block of a number stands at an index
abbrev pub HasNumber : List TableBlock → ℕ → ℕ → Type 0
HasNumber blocks number index = (block : TableBlock) × (slice_get blocks index ≡ Some block) × (block.number ≡ number)

-- ---- a prefix, seen from the entries of a block

-- an entry that stands before the prefix is the last, one behind it the first, or it is that of the prefix, or the two are
-- neighbours
abbrev pub IsSide : List FileEntry → List Bool → Side → Type 0
IsSide entries prefix Before = (item : FileEntry) × (slice_get entries 0 ≡ Some item) × (prefix_cmp item.prefix prefix ≡ Greater)
IsSide entries prefix Behind = (item : FileEntry) × (slice_get entries (length entries - 1) ≡ Some item) × (prefix_cmp item.prefix prefix ≡ Less)
IsSide entries prefix (Among (Some item)) = (at : ℕ) × (slice_get entries at ≡ Some item) × (item.prefix ≡ prefix)
IsSide entries prefix (Among None) = (at : ℕ) × (before : FileEntry) × (behind : FileEntry) × (slice_get entries at ≡ Some before) × (slice_get entries (at + 1) ≡ Some behind)
    × (prefix_cmp before.prefix prefix ≡ Less) × (prefix_cmp behind.prefix prefix ≡ Greater)

-- ---- what blocks tell of a prefix

-- in one of them an entry stands, at a place of the table
pub record IsEntryAt (blocks : List TableBlock) (place : ℕ) (item : FileEntry) : Type 0 where
  pub index : ℕ
  pub block : TableBlock
  pub read : slice_get blocks index ≡ Some block
  pub at : ℕ
  pub there : slice_get block.entries.items at ≡ Some item
  pub is : place ≡ BLOCK_ENTRIES * block.number + at

-- the entry before a place of the table comes before the prefix, where one is there
abbrev pub EndsBefore : List TableBlock → ℕ → List Bool → Type 0
EndsBefore blocks place prefix = (place ≡ 0) ⊎ ((last : ℕ) × (item : FileEntry) × (place ≡ last + 1) × IsEntryAt blocks last item × (prefix_cmp item.prefix prefix ≡ Less))

-- the entry at a place, of so many, comes behind it, where one is there
abbrev pub BeginsBehind : List TableBlock → ℕ → ℕ → List Bool → Type 0
BeginsBehind blocks count place prefix = (place ≡ count) ⊎ ((item : FileEntry) × IsEntryAt blocks place item × (prefix_cmp item.prefix prefix ≡ Greater))

-- the entry at a prefix, of a table of so many; or that none is, which two neighbours tell
abbrev pub Tells : List TableBlock → ℕ → List Bool → Option FileEntry → Type 0
Tells blocks count prefix (Some item) = (place : ℕ) × IsEntryAt blocks place item × (item.prefix ≡ prefix)
Tells blocks count prefix None = (place : ℕ) × EndsBefore blocks place prefix × BeginsBehind blocks count place prefix

-- ---- the walk over what they tell

-- where a walk begins
abbrev pub first_leaf : ℕ → ℕ → Leaf
first_leaf ward_bits pseudokey = record { prefix = take ward_bits (word_bits pseudokey); page = 0 }

-- the bits that it went over are the pseudokey's
pub record IsOnWay (pseudokey : ℕ) (leaf : Leaf) : Type 0 where
  pub begins : Begins leaf.prefix pseudokey
  pub short : length leaf.prefix ≤ LIMIT

-- the right page of the split that an entry is, if it is one and of the ward
abbrev pub right_told : ℕ → Option FileEntry → Option ℕ
right_told ward None = None
right_told ward (Some item) = cond (nat_eq item.ward ward) (right_of_kind item.entry.kind) None

module _ (blocks : List TableBlock) (header : Header) (pseudokey : ℕ) where
  -- that of the split at a prefix, or that none is there
  abbrev pub TellsRight : List Bool → Option ℕ → Type 0
  TellsRight prefix right = (told : Option FileEntry) × Tells blocks header.entry_count prefix told × (right_told (ward_of header.settings.ward_bits pseudokey) told ≡ right)

  -- over so many splits the walk has come to a leaf
  abbrev pub HasComeTo : ℕ → Leaf → Type 0
  HasComeTo zero leaf = leaf ≡ first_leaf header.settings.ward_bits pseudokey
  HasComeTo (suc splits) leaf = (last : Leaf) × HasComeTo splits last × (length last.prefix < LIMIT) × (right : ℕ) × TellsRight last.prefix (Some right)
      × (leaf ≡ step last (get_or (word_bits pseudokey) (length last.prefix) false) right)

  -- and ends there
  pub record WalkEnds (leaf : Leaf) : Type 0 where
    pub splits : ℕ
    pub come : HasComeTo splits leaf
    pub ends : (LIMIT ≤ length leaf.prefix) ⊎ TellsRight leaf.prefix None

-- ---- how many blocks are read

-- by halves, of fewer than 2^13 blocks, for one prefix
abbrev pub SEARCH_READS : ℕ
SEARCH_READS = 13

-- for the prefixes of a walk
abbrev pub TABLE_READS : ℕ
TABLE_READS = SEARCH_READS * LIMIT

-- of a table, behind some blocks that were read, at most so many more were
pub record ReadsOn (version : FileVersion) (known : Option (List ℕ)) (header : Header) (old new : Option (List ℕ)) (before after : List TableBlock) (most : ℕ) : Type 0 where
  pub more : List TableBlock
  pub joined : after ≡ before ++ more
  pub few : length more ≤ most
  pub are : AreBlocksOf version known header after
  pub reads : Appends old new (places_in header more)

-- behind some blocks that were read fails another one, which was read last, or would have been
pub record FailsBehind (version : FileVersion) (known : Option (List ℕ)) (header : Header) (fault : DirectFault) (blocks : List TableBlock) (number : ℕ) : Type 0 where
  pub are : AreBlocksOf version known header blocks
  pub within : number < table_blocks header.entry_count
  pub other : list_any (nat_eq number) (numbers_of blocks) ≡ false
  pub fails : BlockFails (TableFails version.images (table_place header + number) (entries_in header number) None) known (table_place header + number) fault

-- after fewer than so many more
pub record FailsNext (version : FileVersion) (known : Option (List ℕ)) (header : Header) (old new : Option (List ℕ)) (before : List TableBlock) (most : ℕ) (fault : DirectFault) : Type 0 where
  pub more : List TableBlock
  pub few : length more < most
  pub number : ℕ
  pub behind : FailsBehind version known header fault (before ++ more) number
  pub between : Option (List ℕ)
  pub reads : Appends old between (places_in header more)
  pub last : MayRead between new (table_place header + number)
