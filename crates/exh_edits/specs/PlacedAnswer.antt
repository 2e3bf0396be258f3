-- What is answered of a key of a page file of version 3: its value, or the first fault.
use Rattle.std.specs.Prelude.{◌≡◌, ◌⊎◌, ℕ, ◌<◌, ◌≤◌, nat_eq, List, [], ◌∷◌, Option, length}
use Rattle.std.specs.List.{IsDistinct}
use Rattle.std.specs.Io.KnownBytes.{Appends}
use Rattle.exh_prefix.specs.declared.prefix.TheConstants.{LIMIT}
use Rattle.exh_prefix.specs.Version.{second_version}
use Rattle.exh_keyer.specs.Pseudokey.{any_pseudokey}
use Rattle.exh_table.specs.declared.leaf.Leaf.{Leaf}
use Rattle.exh_page.specs.declared.page.Page.{Page}
use Rattle.exh_page.specs.Page.{records_of}
use Rattle.exh_page.specs.Records.{value_at}
use Rattle.exh_legal.specs.Pages.{IsHome}
use Rattle.exh_format.specs.FileTests.{PageFails}
use Rattle.exh_cells.specs.declared.stamped_header.StampedHeader.{StampedHeader}
use Rattle.exh_cells.specs.Places.{group_in, page_block_of}
use Rattle.exh_direct.specs.declared.direct_fault.DirectFault.{DirectFault}
use Rattle.exh_direct.specs.declared.direct_fault.DirectFault.TheVariants.{Astray}
use Rattle.exh_direct.specs.KnownBlocks.{BlockFails, IsPageBlock, MayRead}
use Rattle.exh_edits.specs.declared.walk_block.WalkBlock.{WalkBlock}
use Rattle.exh_edits.specs.WalkBlocks.{AreBlocksOf, FailsNext, HeaderFails, IsHeaderAt, pages_in, places_in}
use Rattle.exh_edits.specs.CellWalk.{AreAsked, ComesTo, EndsAt}

abbrev pub pseudokey_in : StampedHeader → List ℕ → ℕ
pseudokey_in header key = any_pseudokey header.settings.keyer key

-- ---- the walk

-- the walk blocks that the walk asks for were read, each once, in the order in which it comes to them
pub record HasRead (known : Option (List ℕ)) (header : StampedHeader) (pseudokey : ℕ) (old new : Option (List ℕ)) (blocks : List WalkBlock) : Type 0 where
  pub are : AreBlocksOf known header blocks
  pub asked : AreAsked header.settings.ward_bits pseudokey [] blocks
  pub reads : Appends old new (places_in blocks)

-- over them the walk ends at the page of a place
pub record NamesPlace (known : Option (List ℕ)) (header : StampedHeader) (pseudokey : ℕ) (old new : Option (List ℕ)) (place : ℕ) : Type 0 where
  pub blocks : List WalkBlock
  pub read : HasRead known header pseudokey old new blocks
  pub few : length blocks ≤ LIMIT
  pub leaf : Leaf
  pub ends : EndsAt header.settings.ward_bits pseudokey blocks leaf
  pub is : place ≡ leaf.page
  pub there : place < pages_in header

-- the walk block that it asks for next fails; or it goes to a page that is no place of the file, and no other block is read
abbrev pub FailsAtLeaf : Option (List ℕ) → StampedHeader → Leaf → Option (List ℕ) → Option (List ℕ) → List WalkBlock → DirectFault → Type 0
FailsAtLeaf known header leaf old new blocks fault = ((length leaf.prefix < LIMIT) × (leaf.page < pages_in header) × FailsNext known header (group_in leaf.page) old new blocks fault)
    ⊎ ((pages_in header ≤ leaf.page) × Appends old new [] × (fault ≡ Astray))

pub record FailsInWalk (known : Option (List ℕ)) (header : StampedHeader) (pseudokey : ℕ) (old new : Option (List ℕ)) (fault : DirectFault) : Type 0 where
  pub blocks : List WalkBlock
  pub between : Option (List ℕ)
  pub read : HasRead known header pseudokey old between blocks
  pub few : length blocks ≤ LIMIT
  pub leaf : Leaf
  pub comes : ComesTo header.settings.ward_bits pseudokey blocks leaf
  pub fails : FailsAtLeaf known header leaf between new blocks fault

-- ---- the page at its end

abbrev pub IsPagePlaced : Option (List ℕ) → StampedHeader → ℕ → Page → Type 0
IsPagePlaced known header place page = IsPageBlock second_version (any_pseudokey header.settings.keyer) known (page_block_of place) page

-- it is the pseudokey's own, and the value is what it has
pub record HasValue (known : Option (List ℕ)) (header : StampedHeader) (key : List ℕ) (old new : Option (List ℕ)) (place : ℕ) (value : Option (List ℕ)) : Type 0 where
  pub page : Page
  pub there : IsPagePlaced known header place page
  pub home : IsHome page (pseudokey_in header key)
  pub is : value ≡ value_at (pseudokey_in header key, key) (records_of page)
  pub reads : Appends old new (page_block_of place ∷ [])

-- its block fails; or it isn't the pseudokey's own
abbrev pub FailsAtEnd : Option (List ℕ) → StampedHeader → List ℕ → Option (List ℕ) → Option (List ℕ) → ℕ → DirectFault → Type 0
FailsAtEnd known header key old new place fault =
    (BlockFails (PageFails second_version (any_pseudokey header.settings.keyer) (page_block_of place)) known (page_block_of place) fault × MayRead old new (page_block_of place))
    ⊎ ((page : Page) × IsPagePlaced known header place page × ¬ IsHome page (pseudokey_in header key) × Appends old new (page_block_of place ∷ []) × (fault ≡ Astray))

-- ---- the whole answer

-- the value of a key, and the blocks that were read for it, in their order: the header, walk blocks and one page
pub record FindsPlaced (known : Option (List ℕ)) (key : List ℕ) (old new value : Option (List ℕ)) : Type 0 where
  pub header : StampedHeader
  pub head : IsHeaderAt known header
  pub first : Option (List ℕ)
  pub between : Option (List ℕ)
  pub reads : Appends old first (0 ∷ [])
  pub place : ℕ
  pub names : NamesPlace known header (pseudokey_in header key) first between place
  pub found : HasValue known header key between new place value

-- the first fault: of the header, of the walk behind it, or of the page behind both
abbrev pub RefusesBehind : Option (List ℕ) → List ℕ → Option (List ℕ) → Option (List ℕ) → DirectFault → StampedHeader → Type 0
RefusesBehind known key old new fault header = IsHeaderAt known header × (first : Option (List ℕ)) × Appends old first (0 ∷ []) × (FailsInWalk known header (pseudokey_in header key) first new fault
    ⊎ ((place : ℕ) × (between : Option (List ℕ)) × NamesPlace known header (pseudokey_in header key) first between place × FailsAtEnd known header key between new place fault))

abbrev pub RefusesPlaced : Option (List ℕ) → List ℕ → Option (List ℕ) → Option (List ℕ) → DirectFault → Type 0
RefusesPlaced known key old new fault = (BlockFails HeaderFails known 0 fault × MayRead old new 0) ⊎ ((header : StampedHeader) × RefusesBehind known key old new fault header)

-- ---- how many blocks

-- the header, a walk block for each length of a prefix, and a page
abbrev pub PLACED_READS : ℕ
PLACED_READS = 22

-- at most so many blocks were read, and none twice
pub record ReadsFew (old new : Option (List ℕ)) : Type 0 where
  pub places : List ℕ
  pub are : Appends old new places
  pub once : IsDistinct nat_eq places
  pub few : length places ≤ PLACED_READS
