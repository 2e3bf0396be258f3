-- Tables whose entries have their places among pages, which are given by their low bounds in the order of their places.
use Rattle.std.specs.Prelude.{◌≡◌, ◌≢◌, ℕ, ◌<◌, ◌%◌, ◌^◌, nat_eq, Bool, true, if◌then◌else◌, List, [], ◌∷◌, ◌++◌, length, take, slice_get, Some}
use Rattle.std.specs.FinMap.{get}
use Rattle.exh_prefix.specs.declared.prefix.TheConstants.{LIMIT}
use Rattle.exh_prefix.specs.Leading.{ward_of}
use Rattle.exh_prefix.specs.Prefix.{low_of}
use Rattle.exh_notice.specs.declared.entry.Entry.{Entry}
use Rattle.exh_notice.specs.declared.entry.Kind.{Kind}
use Rattle.exh_notice.specs.declared.entry.Kind.TheVariants.{Merge, Split}
use Rattle.exh_table.specs.Table.{TableMap}
use Rattle.exh_cells.specs.declared.cell.Cell.{Cell}
use Rattle.exh_cells.specs.CellLaws.{AreTold}
use Rattle.exh_cells.specs.Fit.{pages_in}

-- the kind that an entry's number tells, with this right page
abbrev pub kind_by : ℕ → ℕ → Kind
kind_by number right = if nat_eq (number % 2) 1 then Split right else Merge

-- the number in its ward of the page of a low bound at a place
abbrev pub number_by : ℕ → List ℕ → ℕ → ℕ → ℕ
number_by ward_bits lows low place = pages_in ward_bits (ward_of ward_bits low) (take place lows)

-- an entry of a ward: a page of the ward has the low bound of its prefix, and a page that of the right child, whose number is the right page of a split
pub record HasPlaces (ward_bits : ℕ) (lows : List ℕ) (ward : ℕ) (prefix : List Bool) (entry : Entry) : Type 0 where
  pub short : length prefix < LIMIT
  pub some : entry.number ≢ 0
  pub own : ward_of ward_bits (low_of prefix) ≡ ward
  pub left : ℕ
  pub left_is : slice_get lows left ≡ Some (low_of prefix)
  pub right : ℕ
  pub right_is : slice_get lows right ≡ Some (low_of (prefix ++ true ∷ []))
  pub kind_is : entry.kind ≡ kind_by entry.number (number_by ward_bits lows (low_of (prefix ++ true ∷ [])) right)

-- a table for each ward, of such entries
pub record HavePlaces (ward_bits : ℕ) (lows : List ℕ) (tables : List TableMap) : Type 0 where
  pub count : length tables ≡ 2 ^ ward_bits
  pub each : (ward : ℕ) (table : TableMap) (prefix : List Bool) (entry : Entry) → slice_get tables ward ≡ Some table → get table prefix ≡ Some entry → HasPlaces ward_bits lows ward prefix entry

-- tables that cells tell of are such
abbrev pub ToldTablesHavePlaces : Type 0
ToldTablesHavePlaces = (ward_bits : ℕ) (lows : List ℕ) (cells : List Cell) (tables : List TableMap) → AreTold ward_bits lows cells tables → HavePlaces ward_bits lows tables
