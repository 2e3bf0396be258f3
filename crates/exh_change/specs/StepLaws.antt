-- What answers, splits and merges make of a legal page file of version 3.
use Rattle.std.specs.Prelude.{◌≡◌, ◌≢◌, ℕ, ◌+◌, ◌-◌, ◌%◌, ◌^◌, ◌<◌, ◌≤◌, Bool, true, false, List, [], ◌∷◌, ◌++◌, length, slice_get, Option, Some}
use Rattle.exh_prefix.specs.declared.prefix.TheConstants.{LIMIT}
use Rattle.exh_prefix.specs.Prefix.{low_of}
use Rattle.exh_keyer.specs.Pseudokey.{any_pseudokey}
use Rattle.exh_table.specs.Table.{TableMap}
use Rattle.exh_page.specs.declared.page.Page.{Page}
use Rattle.exh_page.specs.declared.page.Page.TheVariants.{Forward, Live}
use Rattle.exh_page.specs.declared.record.Record.{Record}
use Rattle.exh_page.specs.Page.{low_bound}
use Rattle.exh_legal.specs.Pages.{IsHome}
use Rattle.exh_calls.specs.MapMachine.{map_after, reply_of}
use Rattle.exh_calls.specs.declared.call.Call.{Call}
use Rattle.exh_cells.specs.declared.cell.Cell.{Cell}
use Rattle.exh_cells.specs.declared.stamped_header.StampedHeader.{StampedHeader}
use Rattle.exh_cells.specs.LegalPlaced.{IsLegalPlaced}
use Rattle.exh_cells.specs.PlacedFile.{IsPlaced, PlacedFile}
use Rattle.exh_edits.specs.PlacedEdits.{with_header, with_page}
use Rattle.exh_change.specs.PlacedSteps.{IsAnswering, IsFullIn, IsLiveIn, IsStep, count_in, merged, page_after, reply_at, slot_of, split_fresh, split_revived}
use Rattle.exh_edits.specs.PlacedLaws.{map_in}

-- no two pages have one low bound, and no pseudokey has two homes
pub record StandApart (file : PlacedFile) : Type 0 where
  pub lows : (one other : ℕ) (page twin : Page) → slice_get file.pages one ≡ Some page → slice_get file.pages other ≡ Some twin → low_bound page ≡ low_bound twin → one ≡ other
  pub homes : (pseudokey one other : ℕ) (page twin : Page) → slice_get file.pages one ≡ Some page → slice_get file.pages other ≡ Some twin → IsHome page pseudokey → IsHome twin pseudokey → one ≡ other

abbrev pub PagesStandApart : Type 0
PagesStandApart = (file : PlacedFile) (tables : List TableMap) → IsPlaced file → IsLegalPlaced file tables → StandApart file

-- other stamps change nothing
abbrev pub StampsKeepLegal : Type 0
StampsKeepLegal = (file : PlacedFile) (tables : List TableMap) (header : StampedHeader)
    → IsLegalPlaced file tables → header.settings ≡ file.header.settings → header.page_counts ≡ file.header.page_counts → IsStep file (map_in file) (with_header header file)

-- ---- answers

-- the reply and the map are the map machine's
pub record IsMachines (file : PlacedFile) (call : Call) (place : ℕ) (page : Page) : Type 0 where
  pub reply : reply_at file call page ≡ reply_of file.header.settings.cap (any_pseudokey file.header.settings.keyer) (map_in file) call
  pub step : IsStep file (map_after file.header.settings.cap (any_pseudokey file.header.settings.keyer) (map_in file) call) (with_page place (page_after file call page) file)

abbrev pub AnswersKeepLegal : Type 0
AnswersKeepLegal = (file : PlacedFile) (tables : List TableMap) (call : Call) (place : ℕ) (page : Page)
    → IsPlaced file → IsLegalPlaced file tables → IsAnswering file call place page → IsMachines file call place page

-- ---- splits

-- no page has the right half's low bound, there is room for one more, and with it the file is legal and has the same map
pub record IsSplitFresh (file : PlacedFile) (place : ℕ) (prefix : List Bool) (link : Option ℕ) (records : List Record) (cell : Cell) : Type 0 where
  pub room : count_in file prefix < 2 ^ (LIMIT - file.header.settings.ward_bits)
  pub step : IsStep file (map_in file) (split_fresh place prefix link records cell file)

-- the slot's page is the forwarding page of the right half's low bound, which has a cell, and once it is live again the file is legal and has the same map
pub record IsSplitRevived (file : PlacedFile) (place : ℕ) (prefix : List Bool) (link : Option ℕ) (records : List Record) (cell : Cell) : Type 0 where
  pub target : ℕ
  pub forward : slice_get file.pages (slot_of cell (length prefix)).page ≡ Some (Forward (low_of (prefix ++ true ∷ [])) target)
  pub right_cell : Cell
  pub right_is : slice_get file.cells (slot_of cell (length prefix)).page ≡ Some right_cell
  pub step : IsStep file (map_in file) (split_revived place prefix link records cell (slot_of cell (length prefix)).page right_cell.number file)

-- a full page can be split, as its slot says
pub record IsSplittable (file : PlacedFile) (place : ℕ) (prefix : List Bool) (link : Option ℕ) (records : List Record) (cell : Cell) : Type 0 where
  pub even : (slot_of cell (length prefix)).number % 2 ≡ 0
  pub fresh : (slot_of cell (length prefix)).number ≡ 0 → IsSplitFresh file place prefix link records cell
  pub revived : (slot_of cell (length prefix)).number ≢ 0 → IsSplitRevived file place prefix link records cell

abbrev pub SplitsKeepLegal : Type 0
SplitsKeepLegal = (file : PlacedFile) (tables : List TableMap) (place : ℕ) (prefix : List Bool) (link : Option ℕ) (records : List Record) (cell : Cell)
    → IsPlaced file → IsLegalPlaced file tables → IsFullIn file place prefix link records cell → IsSplittable file place prefix link records cell

-- ---- merges

-- with a live right buddy, and no more than cap records together, the file of both merged is legal and has the same map
abbrev pub MergesWith : PlacedFile → ℕ → List Bool → List Record → Cell → Type 0
MergesWith file place prefix records cell = (link : Option ℕ) (more : List Record)
    → slice_get file.pages (slot_of cell (length prefix)).page ≡ Some (Live (prefix ++ true ∷ []) link more) → length records + length more ≤ file.header.settings.cap
    → IsStep file (map_in file) (merged place (slot_of cell (length prefix)).page prefix link records more cell file)

-- the slot of a live left half's parent is of a split, and its page has the right half's low bound
pub record IsMergeable (file : PlacedFile) (place : ℕ) (prefix : List Bool) (records : List Record) (cell : Cell) : Type 0 where
  pub odd : (slot_of cell (length prefix)).number % 2 ≡ 1
  pub right : Page
  pub there : slice_get file.pages (slot_of cell (length prefix)).page ≡ Some right
  pub low : low_bound right ≡ low_of (prefix ++ true ∷ [])
  pub merges : MergesWith file place prefix records cell

abbrev pub MergesKeepLegal : Type 0
MergesKeepLegal = (file : PlacedFile) (tables : List TableMap) (place : ℕ) (prefix : List Bool) (link : Option ℕ) (records : List Record) (cell : Cell)
    → IsPlaced file → IsLegalPlaced file tables → IsLiveIn file place (prefix ++ false ∷ []) link records cell → file.header.settings.ward_bits ≤ length prefix → IsMergeable file place prefix records cell
