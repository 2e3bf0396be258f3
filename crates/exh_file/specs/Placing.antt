-- The file of version 3 that wards are written as.
use Rattle.std.specs.Prelude.{◌≡◌, ℕ, ◌^◌, ◌<◌, List, [], length, map, take, get_or}
use Rattle.exh_keyer.specs.declared.any_keyer.AnyKeyer.{AnyKeyer}
use Rattle.exh_table.specs.Table.{TableMap}
use Rattle.exh_page.specs.declared.page.Page.{Page}
use Rattle.exh_placing.specs.declared.StampedHeader.{StampedHeader}
use Rattle.exh_placing.specs.CellLaws.{AreTold}
use Rattle.exh_placing.specs.LegalPlaced.{IsLegalPlacedFile, wards_of}
use Rattle.exh_placing.specs.PlacedFile.{PlacedFile, lows_of}
use Rattle.exh_placing.specs.declared.page_at.PageAt.{PageAt}
use Rattle.exh_placing.specs.Order.{BeginsWithFirsts, IsOrderOf, IsOrderOfLows, IsWithin, with_others}
use Rattle.exh_placing.specs.WardFile.{pages_named}
use Rattle.exh_ward.specs.WardState.{WardState}
use Rattle.exh_file.specs.declared.placing.Placing.{Placing}
use Rattle.exh_file.specs.declared.placing.Stamps.{Stamps}
use Rattle.exh_file.specs.Opened.{OpenedState, settings_in}
use Rattle.exh_file.specs.Saved.{counts_in, pages_of_all}

-- ---- the file

-- the table of each ward
abbrev pub tables_of_all : List (WardState AnyKeyer) → List TableMap
tables_of_all wards = map (λ ward. ward.table) wards

-- the pages of a ward, none where it isn't there
abbrev pub own_pages : List (WardState AnyKeyer) → ℕ → List Page
own_pages wards ward = get_or (pages_of_all wards) ward []

-- the pages of wards in an order
abbrev pub ordered_pages : List (WardState AnyKeyer) → List PageAt → List Page
ordered_pages wards order = pages_named (pages_of_all wards) order

abbrev pub stamped_header : OpenedState → Stamps → StampedHeader
stamped_header opened stamps = record { settings = settings_in opened; page_counts = counts_in opened.wards; stamp = stamps.own; before = stamps.before }

abbrev pub placed_file : OpenedState → Placing → PlacedFile
placed_file opened placing =
    record { header = stamped_header opened placing.stamps; pages = ordered_pages opened.wards placing.order.items; cells = placing.cells.items }

-- ---- what is kept of a placing

-- it is one of these wards: each page has a place, the wards' first pages have the first, and the cells tell of the wards' tables
pub record IsPlacingOf (opened : OpenedState) (placing : Placing) : Type 0 where
  pub order_is : IsOrderOf (map length (pages_of_all opened.wards)) placing.order.items
  pub firsts : BeginsWithFirsts (length opened.wards) placing.order.items
  pub cells_are : AreTold opened.ward_bits (lows_of (ordered_pages opened.wards placing.order.items)) placing.cells.items (tables_of_all opened.wards)

-- ---- what is written

-- the bytes are a legal file of version 3 that has the wards' pages and tables
pub record IsPlacedSaving (opened : OpenedState) (placing : Placing) (bytes : List ℕ) : Type 0 where
  pub legal : IsLegalPlacedFile (placed_file opened placing) (tables_of_all opened.wards) bytes
  pub wards_are : wards_of (placed_file opened placing) ≡ pages_of_all opened.wards

-- ---- how a placing is made

-- an order of wards' pages, the first of which are the wards' pages 0
pub record IsWardOrder (wards : List (WardState AnyKeyer)) (order : List PageAt) : Type 0 where
  pub all : IsOrderOf (map length (pages_of_all wards)) order
  pub firsts : BeginsWithFirsts (length wards) order

-- the pages that had these low bounds, in their places, and behind them the others, ward by ward
pub record IsGrownOrder (ward_bits : ℕ) (wards : List (WardState AnyKeyer)) (lows : List ℕ) (order : List PageAt) : Type 0 where
  pub placed : List PageAt
  pub placed_is : IsOrderOfLows ward_bits lows placed
  pub order_is : order ≡ with_others (map length (pages_of_all wards)) placed

-- the wards have the pages of these low bounds, fewer than 2^32: none is a page that a ward lacks, the first are the wards' pages 0, and each has its low bound
pub record HavePages (ward_bits : ℕ) (wards : List (WardState AnyKeyer)) (lows : List ℕ) : Type 0 where
  pub few : length lows < 2 ^ 32
  pub theirs : (placed : List PageAt) → IsOrderOfLows ward_bits lows placed → IsWithin (map length (pages_of_all wards)) placed × BeginsWithFirsts (length wards) placed
  pub bounds : (order : List PageAt) → IsGrownOrder ward_bits wards lows order → take (length lows) (lows_of (ordered_pages wards order)) ≡ lows

-- a placing of these wards in this order, with these stamps
pub record IsPlacedSo (opened : OpenedState) (order : List PageAt) (stamps : Stamps) (placing : Placing) : Type 0 where
  pub is : IsPlacingOf opened placing
  pub order_is : placing.order.items ≡ order
  pub stamps_are : placing.stamps ≡ stamps
