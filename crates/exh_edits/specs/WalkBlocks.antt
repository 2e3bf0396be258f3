-- Walk blocks that a get of a page file of version 3 reads, each by its group.
use Rattle.std.specs.Prelude.{◌≡◌, ◌⊎◌, ℕ, ◌-◌, ◌*◌, ◌<◌, nat_eq, min, false, List, [], ◌∷◌, ◌++◌, Option, Some, length, map, slice_get}
use Rattle.std.specs.List.{AllByRecursion, IsDistinct, list_any, sum}
use Rattle.std.specs.Io.KnownBytes.{Appends}
use Rattle.exh_codec.specs.declared.image_fault.ImageFault.{ImageFault}
use Rattle.exh_codec.specs.ImageTests.{IsFirst}
use Rattle.exh_format.specs.declared.file_fault.FileFault.{FileFault}
use Rattle.exh_format.specs.declared.file_fault.FileFault.TheVariants.{Block}
use Rattle.exh_format.specs.FirstFailing.{IsFirstFailing}
use Rattle.exh_format.specs.HeaderTests.{header_tests}
use Rattle.exh_cells.specs.declared.cell.Cell.{Cell}
use Rattle.exh_cells.specs.declared.places.TheConstants.{GROUP_PAGES}
use Rattle.exh_cells.specs.declared.stamped_header.StampedHeader.{StampedHeader}
use Rattle.exh_cells.specs.Places.{walk_block_of}
use Rattle.exh_cells.specs.StampedHeader.{IsStampedImage, PassesStamped}
use Rattle.exh_cells.specs.WalkImage.{IsWalkImage}
use Rattle.exh_cells.specs.WalkTests.{PassesWalk, walk_tests}
use Rattle.exh_direct.specs.declared.direct_fault.DirectFault.{DirectFault}
use Rattle.exh_direct.specs.KnownBlocks.{BlockFails, IsBlockAt, MayRead}
use Rattle.exh_edits.specs.declared.walk_block.WalkBlock.{WalkBlock}

-- ---- what stands in a block

abbrev pub IsHeaderAt : Option (List ℕ) → StampedHeader → Type 0
IsHeaderAt known header = (block : List ℕ) × IsBlockAt known 0 block × IsStampedImage header block

abbrev pub IsWalkBlock : Option (List ℕ) → ℕ → List Cell → Type 0
IsWalkBlock known place cells = (block : List ℕ) × IsBlockAt known place block × IsWalkImage cells block

-- how many pages the file has
abbrev pub pages_in : StampedHeader → ℕ
pages_in header = sum header.page_counts

-- a group's walk block has a cell for each page of the group, of which all but the last have 24
abbrev pub cells_in : StampedHeader → ℕ → ℕ
cells_in header group = min GROUP_PAGES (pages_in header - GROUP_PAGES * group)

-- ---- their faults: the first test that the block fails

abbrev pub HeaderFails : List ℕ → FileFault → Type 0
HeaderFails block fault = IsFirstFailing (PassesStamped block) header_tests fault

abbrev pub WalkFails : ℕ → ℕ → List ℕ → FileFault → Type 0
WalkFails count place block fault = (image : ImageFault) × IsFirst (PassesWalk count block) walk_tests image × (fault ≡ Block place image)

-- ---- blocks that were read

-- the walk block of its group, which has pages
pub record IsBlockOf (known : Option (List ℕ)) (header : StampedHeader) (block : WalkBlock) : Type 0 where
  pub within : GROUP_PAGES * block.group < pages_in header
  pub count : length block.cells.items ≡ cells_in header block.group
  pub is : IsWalkBlock known (walk_block_of block.group) block.cells.items

abbrev pub groups_read : List WalkBlock → List ℕ
groups_read blocks = map (λ block. block.group) blocks

-- each is, and none stands twice
pub record AreBlocksOf (known : Option (List ℕ)) (header : StampedHeader) (blocks : List WalkBlock) : Type 0 where
  pub each : AllByRecursion (IsBlockOf known header) blocks
  pub once : IsDistinct nat_eq (groups_read blocks)

abbrev pub places_in : List WalkBlock → List ℕ
places_in blocks = map (λ block. walk_block_of block.group) blocks

-- the block of a group stands at an index
abbrev pub HasGroup : List WalkBlock → ℕ → ℕ → Type 0
HasGroup blocks group index = (block : WalkBlock) × (slice_get blocks index ≡ Some block) × (block.group ≡ group)

-- ---- one block more

-- the block of a group, which isn't among those that were read, was read and put behind them
pub record IsNext (known : Option (List ℕ)) (header : StampedHeader) (group : ℕ) (old new : Option (List ℕ)) (before after : List WalkBlock) : Type 0 where
  pub block : WalkBlock
  pub of_group : block.group ≡ group
  pub is : IsBlockOf known header block
  pub other : list_any (nat_eq group) (groups_read before) ≡ false
  pub joined : after ≡ before ++ block ∷ []
  pub reads : Appends old new (walk_block_of group ∷ [])

-- or it is among them
abbrev pub IsTaken : Option (List ℕ) → StampedHeader → ℕ → Option (List ℕ) → Option (List ℕ) → List WalkBlock → List WalkBlock → Type 0
IsTaken known header group old new before after = ((after ≡ before) × Appends old new []) ⊎ IsNext known header group old new before after

-- the block of a group, which isn't among them, fails
pub record FailsNext (known : Option (List ℕ)) (header : StampedHeader) (group : ℕ) (old new : Option (List ℕ)) (before : List WalkBlock) (fault : DirectFault) : Type 0 where
  pub other : list_any (nat_eq group) (groups_read before) ≡ false
  pub fails : BlockFails (WalkFails (cells_in header group) (walk_block_of group)) known (walk_block_of group) fault
  pub last : MayRead old new (walk_block_of group)
