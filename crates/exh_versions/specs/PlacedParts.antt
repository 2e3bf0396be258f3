-- The parts of a page file of version 3 as the code has them.
use Rattle.std.specs.Prelude.{◌≡◌, ℕ, List, Option, map}
use Rattle.std.specs.List.{AllByRecursion}
use Rattle.exh_keyer.specs.Pseudokey.{any_pseudokey}
use Rattle.exh_page.specs.declared.page.Page.{Page}
use Rattle.exh_format.specs.FileParts.{TakesFormed}
use Rattle.exh_format.specs.Reading.{AreBytes, IsAll}
use Rattle.exh_cells.specs.LegalPlaced.{wards_of}
use Rattle.exh_cells.specs.PlacedFile.{IsPlacedFile, PlacedFile, lows_of}
use Rattle.exh_versions.specs.declared.placed_parts.PlacedParts.{PlacedParts}

-- the parts are the file's: of its pages the wards, which say which they have, and the low bounds by their places
pub record ArePartsOf {W : Type 0} (own : W → List Page) (file : PlacedFile) (parts : PlacedParts W) : Type 0 where
  pub header : parts.header ≡ file.header
  pub wards : map own parts.wards.items ≡ wards_of file
  pub lows : parts.lows.items ≡ lows_of file.pages
  pub cells : parts.cells.items ≡ file.cells

-- the parts are those of a file that the bytes are of, which are all that was known
pub record IsReadFrom {W : Type 0} (own : W → List Page) (known : Option (List ℕ)) (parts : PlacedParts W) : Type 0 where
  pub file : PlacedFile
  pub bytes : List ℕ
  pub all : IsAll known bytes
  pub are_bytes : AreBytes bytes
  pub is : IsPlacedFile file bytes
  pub parts_are : ArePartsOf own file parts

-- what each ward is read into takes every page that is well formed under the file's keyer
abbrev pub AreTaking : {W : Type 0} → (W → Page → Type 0) → PlacedParts W → Type 0
AreTaking takes parts = AllByRecursion (TakesFormed takes (any_pseudokey parts.header.settings.keyer)) parts.wards.items
