-- Pages of legal wards in an order.
use Rattle.std.specs.Prelude.{◌≡◌, ℕ, ◌≤◌, ◌^◌, List, length, map}
use Rattle.std.specs.List.{range_with_len}
use Rattle.exh_prefix.specs.declared.prefix.TheConstants.{WARD_BITS_LIMIT}
use Rattle.exh_table.specs.Table.{TableMap}
use Rattle.exh_page.specs.declared.page.Page.{Page}
use Rattle.exh_legal.specs.LegalParts.{parts_of}
use Rattle.exh_legal.specs.ReasonLaws.{IsLegalFile}
use Rattle.exh_cells.specs.CellLaws.{AreApart}
use Rattle.exh_cells.specs.LegalPlaced.{pages_of_ward}
use Rattle.exh_cells.specs.PlacedFile.{lows_of}
use Rattle.exh_placing.specs.declared.page_at.PageAt.{PageAt}
use Rattle.exh_placing.specs.Order.{IsOrderOf}
use Rattle.exh_placing.specs.Placed.{HavePlaces}
use Rattle.exh_placing.specs.WardFile.{ArePagesOf, pages_named}

-- the wards of pages: each is the pages whose low bounds are its own, in their order
abbrev pub wards_by : ℕ → List Page → List (List Page)
wards_by ward_bits pages = map (pages_of_ward ward_bits pages) (range_with_len 0 (2 ^ ward_bits))

-- the pages of legal wards, in an order, have different low bounds, and the places that the entries of the wards' tables ask for
abbrev pub LegalWardsHavePlaces : Type 0
LegalWardsHavePlaces = (pseudo : List ℕ → ℕ) (cap ward_bits : ℕ) (wards : List (List Page)) (tables : List TableMap) (order : List PageAt) (pages : List Page)
    → ward_bits ≤ WARD_BITS_LIMIT → length wards ≡ 2 ^ ward_bits → length tables ≡ 2 ^ ward_bits → IsLegalFile pseudo (parts_of cap ward_bits wards tables) → IsOrderOf (map length wards) order → ArePagesOf wards order pages
    → AreApart (lows_of pages) × HavePlaces ward_bits (lows_of pages) tables

-- an order of wards' pages names a page at each place
abbrev pub OrdersGivePages : Type 0
OrdersGivePages = (wards : List (List Page)) (order : List PageAt) → IsOrderOf (map length wards) order → ArePagesOf wards order (pages_named wards order)
