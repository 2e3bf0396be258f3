-- The home of a pseudokey in a page file of version 3, and its place.
use Rattle.std.specs.Prelude.{◌≡◌, ◌⊎◌, ℕ, List, Option, Some, slice_get}
use Rattle.exh_prefix.specs.Version.{second_version}
use Rattle.exh_keyer.specs.Pseudokey.{any_pseudokey}
use Rattle.exh_page.specs.declared.page.Page.{Page}
use Rattle.exh_legal.specs.Pages.{IsHome}
use Rattle.exh_format.specs.FileTests.{PageFails}
use Rattle.exh_cells.specs.declared.stamped_header.StampedHeader.{StampedHeader}
use Rattle.exh_cells.specs.PlacedFile.{PlacedFile}
use Rattle.exh_cells.specs.Places.{page_block_of}
use Rattle.exh_direct.specs.declared.direct_fault.DirectFault.{DirectFault}
use Rattle.exh_direct.specs.declared.direct_fault.DirectFault.TheVariants.{Astray}
use Rattle.exh_direct.specs.KnownBlocks.{BlockFails}
use Rattle.exh_edits.specs.declared.home.Home.{Home}
use Rattle.exh_edits.specs.PlacedAnswer.{FailsInWalk, IsPagePlaced, NamesPlace}

-- of a legal file: the page of that place, whose prefix begins the pseudokey
pub record IsHomeIn (file : PlacedFile) (pseudokey : ℕ) (home : Home) : Type 0 where
  pub there : slice_get file.pages home.place ≡ Some home.page
  pub is : IsHome home.page pseudokey

-- ---- of any bytes

-- the walk ends at the page of the place, whose prefix begins the pseudokey
pub record ComesHome (known : Option (List ℕ)) (header : StampedHeader) (pseudokey : ℕ) (old : Option (List ℕ)) (home : Home) : Type 0 where
  pub between : Option (List ℕ)
  pub names : NamesPlace known header pseudokey old between home.place
  pub there : IsPagePlaced known header home.place home.page
  pub own : IsHome home.page pseudokey

-- the block of the page at its end fails; or its prefix doesn't begin the pseudokey
abbrev pub FailsAtHome : Option (List ℕ) → StampedHeader → ℕ → ℕ → DirectFault → Type 0
FailsAtHome known header pseudokey place fault =
    BlockFails (PageFails second_version (any_pseudokey header.settings.keyer) (page_block_of place)) known (page_block_of place) fault
    ⊎ ((page : Page) × IsPagePlaced known header place page × ¬ IsHome page pseudokey × (fault ≡ Astray))

-- the walk fails, or the page at its end
abbrev pub FailsToHome : Option (List ℕ) → StampedHeader → ℕ → Option (List ℕ) → Option (List ℕ) → DirectFault → Type 0
FailsToHome known header pseudokey old new fault = FailsInWalk known header pseudokey old new fault
    ⊎ ((place : ℕ) × (between : Option (List ℕ)) × NamesPlace known header pseudokey old between place × FailsAtHome known header pseudokey place fault)
