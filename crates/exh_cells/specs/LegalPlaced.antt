-- Legal page files of version 3: the wards and tables that pages and cells come to, and the first reason against them.
use Rattle.std.specs.Prelude.{◌≡◌, ℕ, ◌^◌, nat_eq, List, [], Option, filter, map}
use Rattle.std.specs.List.{range_with_len}
use Rattle.exh_prefix.specs.Leading.{ward_of}
use Rattle.exh_keyer.specs.Pseudokey.{any_pseudokey}
use Rattle.exh_format.specs.Table.{TableMap}
use Rattle.exh_format.specs.declared.Page.{Page}
use Rattle.exh_format.specs.Page.{low_bound}
use Rattle.exh_format.specs.declared.Reason.{Reason}
use Rattle.exh_format.specs.declared.Reason.TheVariants.{Cap, LowBounds, Leaves, Links, Forwards, Table}
use Rattle.exh_format.specs.LegalParts.{FileParts, parts_of}
use Rattle.exh_format.specs.ReasonLaws.{IsLegalFile}
use Rattle.exh_format.specs.Reasons.{IsFirstUnpassed, ReasonPasses}
use Rattle.exh_cells.specs.Fit.{FitsCells}
use Rattle.exh_cells.specs.PlacedFile.{IsPlacedFile, PlacedFile, lows_of}
use Rattle.exh_cells.specs.Told.{AreTablesOf}

-- ---- wards and tables

-- the pages of a ward, in the order of their places: a page's number is its place among them
abbrev pub pages_of_ward : ℕ → List Page → ℕ → List Page
pages_of_ward ward_bits pages ward = filter (λ page. nat_eq (ward_of ward_bits (low_bound page)) ward) pages

abbrev pub wards_of : PlacedFile → List (List Page)
wards_of file = map (pages_of_ward file.header.settings.ward_bits file.pages) (range_with_len 0 (2 ^ file.header.settings.ward_bits))

-- what the file says with these tables, as the six reasons are asked of it
abbrev pub placed_parts : PlacedFile → List TableMap → FileParts
placed_parts file tables = parts_of file.header.settings.cap file.header.settings.ward_bits (wards_of file) tables

-- the cells fit the pages and the counts of them
abbrev pub HasFitting : PlacedFile → Type 0
HasFitting file = FitsCells file.header.settings.ward_bits file.header.page_counts (lows_of file.pages) file.cells

-- the tables are those that the cells tell of
abbrev pub HasTables : PlacedFile → List TableMap → Type 0
HasTables file tables = AreTablesOf file.header.settings.ward_bits (lows_of file.pages) file.cells tables

-- ---- legal files

-- the wards are legal with the tables that the cells tell of
pub record IsLegalPlaced (file : PlacedFile) (tables : List TableMap) : Type 0 where
  pub fits : HasFitting file
  pub tables_are : HasTables file tables
  pub legal : IsLegalFile (any_pseudokey file.header.settings.keyer) (placed_parts file tables)

-- the bytes are those of the file, and it is legal
pub record IsLegalPlacedFile (file : PlacedFile) (tables : List TableMap) (bytes : List ℕ) : Type 0 where
  pub is : IsPlacedFile file bytes
  pub legal : IsLegalPlaced file tables

-- ---- the reasons

-- what the pages say alone, with no table, as the first five reasons are asked of it
abbrev pub PagesPass : PlacedFile → Reason → Type 0
PagesPass file reason = ReasonPasses (placed_parts file []) reason

-- the reason doesn't hold of the file: the last asks also that its cells fit
abbrev pub PlacedPasses : PlacedFile → Reason → Type 0
PlacedPasses file Cap = PagesPass file Cap
PlacedPasses file LowBounds = PagesPass file LowBounds
PlacedPasses file Leaves = PagesPass file Leaves
PlacedPasses file Links = PagesPass file Links
PlacedPasses file Forwards = PagesPass file Forwards
PlacedPasses file Table = HasFitting file × (tables : List TableMap) × HasTables file tables × ReasonPasses (placed_parts file tables) Table

-- the first reason that doesn't pass, or none where all do
abbrev pub IsFirstPlaced : PlacedFile → Option Reason → Type 0
IsFirstPlaced file found = IsFirstUnpassed (PlacedPasses file) found
