-- Laws of headers and walk blocks, for the crates above.
use Rattle.std.specs.Prelude.{◌≡◌, ℕ, List, length}
use Rattle.std.specs.List.{AllByRecursion}
use Rattle.exh_codec.specs.declared.block.TheConstants.{BLOCK_LEN}
use Rattle.exh_format.specs.HeaderTests.{header_tests}
use Rattle.exh_cells.specs.declared.cell.Cell.{Cell}
use Rattle.exh_cells.specs.declared.stamped_header.StampedHeader.{StampedHeader}
use Rattle.exh_cells.specs.StampedHeader.{IsStampedImage, PassesStamped}
use Rattle.exh_cells.specs.WalkImage.{IsWalkImage}
use Rattle.exh_cells.specs.WalkTests.{PassesWalk, walk_tests}

-- the walk block of so many cells passes all tests, has the length of a block, and is that of one list of so many
abbrev pub WalksPass : Type 0
WalksPass = (count : ℕ) (cells : List Cell) (block : List ℕ) → IsWalkImage cells block → length cells ≡ count → AllByRecursion (PassesWalk count block) walk_tests

abbrev pub WalksAreBlocks : Type 0
WalksAreBlocks = (cells : List Cell) (block : List ℕ) → IsWalkImage cells block → length block ≡ BLOCK_LEN

abbrev pub OneWalk : Type 0
OneWalk = (block : List ℕ) (one other : List Cell) → length one ≡ length other → IsWalkImage one block → IsWalkImage other block → one ≡ other

-- the block of a header passes all tests, and is that of one header
abbrev pub StampedPass : Type 0
StampedPass = (header : StampedHeader) (block : List ℕ) → IsStampedImage header block → AllByRecursion (PassesStamped block) header_tests

abbrev pub OneStamped : Type 0
OneStamped = (block : List ℕ) (one other : StampedHeader) → IsStampedImage one block → IsStampedImage other block → one ≡ other
