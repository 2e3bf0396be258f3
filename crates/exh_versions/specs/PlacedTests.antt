-- The tests of a page file of version 3 in their order, over all of its bytes.
use Rattle.std.specs.Prelude.{◌≡◌, ℕ, zero, suc, ◌+◌, ◌-◌, ◌<◌, ◌⊎◌, min, List, [], ◌∷◌, ◌++◌, length}
use Rattle.std.specs.List.{AllByRecursion, sum}
use Rattle.exh_prefix.specs.Version.{second_version}
use Rattle.exh_keyer.specs.Pseudokey.{any_pseudokey}
use Rattle.exh_codec.specs.declared.image_fault.ImageFault.{ImageFault}
use Rattle.exh_codec.specs.ImageTests.{IsFirst, Passes, image_tests}
use Rattle.exh_format.specs.declared.file_fault.FileFault.{FileFault}
use Rattle.exh_format.specs.declared.file_fault.FileFault.TheVariants as faults
use Rattle.exh_format.specs.FileTests.{IsWhole, NextFails, PageFails, block_at, bytes_from}
use Rattle.exh_format.specs.FirstFailing.{IsFirstFailing}
use Rattle.exh_format.specs.HeaderTests.{header_tests}
use Rattle.exh_cells.specs.declared.places.TheConstants.{GROUP_PAGES}
use Rattle.exh_cells.specs.declared.stamped_header.StampedHeader.{StampedHeader}
use Rattle.exh_cells.specs.Places.{end_block_of, groups_of}
use Rattle.exh_cells.specs.StampedHeader.{IsStampedImage, PassesStamped}
use Rattle.exh_cells.specs.WalkTests.{PassesWalk, walk_tests}

-- ---- blocks

-- what stands behind the header, with its place, the header's being 0: a walk block of so many cells, a page, the end
pub data PlacedBlock : Type 0 where
  OfCells : (place : ℕ) → (count : ℕ) → PlacedBlock
  OfPage : (place : ℕ) → PlacedBlock
  End : (place : ℕ) → PlacedBlock

abbrev pub page_blocks : ℕ → ℕ → List PlacedBlock
page_blocks place zero = []
page_blocks place (suc count) = OfPage place ∷ page_blocks (suc place) count

abbrev pub group_blocks : ℕ → ℕ → List PlacedBlock
group_blocks place count = OfCells place count ∷ page_blocks (suc place) count

-- so many groups of so many pages: each has as many as there is room for, the last the others
abbrev pub groups_blocks : ℕ → ℕ → ℕ → List PlacedBlock
groups_blocks place zero pages = []
groups_blocks place (suc groups) pages = group_blocks place (min GROUP_PAGES pages) ++ groups_blocks (suc place + min GROUP_PAGES pages) groups (pages - GROUP_PAGES)

-- those of a file with this header
abbrev pub blocks_behind : StampedHeader → List PlacedBlock
blocks_behind header = let pages = sum header.page_counts in groups_blocks 1 (groups_of pages) pages ++ End (end_block_of pages) ∷ []

-- ---- their tests

-- bytes pass what is asked of a block
abbrev pub PassesBlock : (List ℕ → ℕ) → List ℕ → PlacedBlock → Type 0
PassesBlock pseudo bytes (OfCells place count) = IsWhole place bytes × AllByRecursion (PassesWalk count (block_at place bytes)) walk_tests
PassesBlock pseudo bytes (OfPage place) = IsWhole place bytes × AllByRecursion (Passes second_version pseudo (block_at place bytes)) image_tests
PassesBlock pseudo bytes (End place) = bytes_from place bytes ≡ []

-- the fault names the first test that a block fails, and its place
abbrev pub StampedFails : List ℕ → FileFault → Type 0
StampedFails block fault = IsFirstFailing (PassesStamped block) header_tests fault

abbrev pub WalkFails : ℕ → ℕ → List ℕ → FileFault → Type 0
WalkFails place count block fault = (image : ImageFault) × (IsFirst (PassesWalk count block) walk_tests image) × (fault ≡ faults.Block place image)

-- bytes fail what is asked of a block, first by this fault: it ends early, or is whole and fails; or one follows the end
abbrev pub FailsBlock : (List ℕ → ℕ) → List ℕ → PlacedBlock → FileFault → Type 0
FailsBlock pseudo bytes (OfCells place count) fault = NextFails (WalkFails place count) (bytes_from place bytes) fault
FailsBlock pseudo bytes (OfPage place) fault = NextFails (PageFails second_version pseudo place) (bytes_from place bytes) fault
FailsBlock pseudo bytes (End place) fault = (0 < length (bytes_from place bytes)) × (fault ≡ faults.Trailing)

-- ---- their order

-- of blocks in their order, the fault is that of the first at which the bytes fail
pub record BlocksFail (pseudo : List ℕ → ℕ) (bytes : List ℕ) (blocks : List PlacedBlock) (fault : FileFault) : Type 0 where
  pub before : List PlacedBlock
  pub block : PlacedBlock
  pub after : List PlacedBlock
  pub stands : blocks ≡ before ++ block ∷ after
  pub passed : AllByRecursion (PassesBlock pseudo bytes) before
  pub fails : FailsBlock pseudo bytes block fault

-- the bytes pass all tests
abbrev pub PassesPlaced : List ℕ → StampedHeader → Type 0
PassesPlaced bytes header = IsWhole 0 bytes × IsStampedImage header (block_at 0 bytes) × AllByRecursion (PassesBlock (any_pseudokey header.settings.keyer) bytes) (blocks_behind header)

-- the fault is that of the first test that the bytes fail: one of the header, or one behind it, which says what follows
abbrev pub IsPlacedFault : List ℕ → FileFault → Type 0
IsPlacedFault bytes fault = NextFails StampedFails bytes fault
    ⊎ ((header : StampedHeader) × IsStampedImage header (block_at 0 bytes) × BlocksFail (any_pseudokey header.settings.keyer) bytes (blocks_behind header) fault)
