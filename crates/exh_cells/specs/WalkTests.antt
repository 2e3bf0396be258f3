-- The tests of a walk block in their order, each over the whole block.
use Rattle.std.specs.Prelude.{⊤, ℕ, ◌*◌, List, [], ◌∷◌, slice_range}
use Rattle.std.specs.List.{AllByRecursion}
use Rattle.exh_codec.specs.declared.block.TheConstants.{CONTENT_LEN}
use Rattle.exh_codec.specs.declared.image_fault.ImageFault.{ImageFault}
use Rattle.exh_codec.specs.declared.image_fault.ImageFault.TheVariants as images
use Rattle.exh_codec.specs.Block.{IsSealed, AreZero}
use Rattle.exh_cells.specs.declared.cell.Cell.{Cell}
use Rattle.exh_cells.specs.declared.cell.TheConstants.{CELL_LEN}
use Rattle.exh_cells.specs.WalkImage.{AreCells, IsTidy}

-- no slot without an entry has a page, and the bytes behind so many cells are zero
pub record IsWalkPadded (count : ℕ) (block : List ℕ) : Type 0 where
  pub tidy : (cells : List Cell) (rest : List ℕ) → AreCells count block cells rest → AllByRecursion IsTidy cells
  pub behind : AreZero (slice_range block (CELL_LEN * count) CONTENT_LEN)

-- the block, of so many cells, passes the test that a fault is named after
abbrev pub PassesWalk : ℕ → List ℕ → ImageFault → Type 0
PassesWalk count block images.Memory = ⊤
PassesWalk count block images.Digest = IsSealed block
PassesWalk count block images.Kind = ⊤
PassesWalk count block images.Length = ⊤
PassesWalk count block images.Padding = IsWalkPadded count block
PassesWalk count block images.Prefix = ⊤
PassesWalk count block images.Order = ⊤

abbrev pub walk_tests : List ImageFault
walk_tests = images.Digest ∷ images.Padding ∷ []
