-- Answers, splits and merges over the pages and cells of a page file of version 3.
use Rattle.std.specs.Prelude.{◌≡◌, ℕ, ◌+◌, ◌<◌, ◌≤◌, Bool, true, false, nat_le, List, [], ◌∷◌, ◌++◌, length, take, get_or, replicate, slice_get, slice_index, slice_set, Option, Some}
use Rattle.exh_prefix.specs.declared.prefix.TheConstants.{LIMIT}
use Rattle.exh_prefix.specs.Leading.{ward_of}
use Rattle.exh_prefix.specs.Prefix.{low_of}
use Rattle.exh_keyer.specs.Pseudokey.{any_pseudokey}
use Rattle.exh_table.specs.Table.{TableMap}
use Rattle.exh_page.specs.declared.page.Page.{Page}
use Rattle.exh_page.specs.declared.page.Page.TheVariants.{Forward, Live}
use Rattle.exh_page.specs.declared.record.Record.{Record}
use Rattle.exh_page.specs.KeyMap.{KeyMap}
use Rattle.exh_page.specs.Page.{begun_by, records_of, with_records}
use Rattle.exh_calls.specs.declared.call.Call.{Call}
use Rattle.exh_calls.specs.declared.reply.Reply.{Reply}
use Rattle.exh_calls.specs.Call.{key_of}
use Rattle.exh_legal.specs.Pages.{IsHome}
use Rattle.exh_cells.specs.declared.cell.Cell.{Cell}
use Rattle.exh_cells.specs.declared.cell.Slot.{Slot}
use Rattle.exh_cells.specs.declared.cell.TheConstants.{SLOTS}
use Rattle.exh_cells.specs.LegalPlaced.{IsLegalPlaced}
use Rattle.exh_cells.specs.PlacedFile.{PlacedFile, lows_of}
use Rattle.exh_edits.specs.PlacedEdits.{with_cell, with_more, with_page}
use Rattle.exh_ward.specs.PageAnswer.{OverflowsPage, records_after, reply_by}
use Rattle.exh_edits.specs.PlacedLaws.{map_in}

-- a legal file came of another one: each page is in its place, and it has this map
pub record IsStep (old : PlacedFile) (map : KeyMap) (new : PlacedFile) : Type 0 where
  pub tables : List TableMap
  pub legal : IsLegalPlaced new tables
  pub map_is : map_in new ≡ map
  pub places : take (length old.pages) (lows_of new.pages) ≡ lows_of old.pages

-- ---- answers

-- the home of the call's key, which the call doesn't make overflow
pub record IsAnswering (file : PlacedFile) (call : Call) (place : ℕ) (page : Page) : Type 0 where
  pub there : slice_get file.pages place ≡ Some page
  pub home : IsHome page (any_pseudokey file.header.settings.keyer (key_of call))
  pub fits : OverflowsPage file.header.settings.cap (any_pseudokey file.header.settings.keyer (key_of call)) page call → ⊥

abbrev pub is_full : PlacedFile → Page → Bool
is_full file page = nat_le file.header.settings.cap (length (records_of page))

-- the page with what the call leaves of its records
abbrev pub page_after : PlacedFile → Call → Page → Page
page_after file call page = with_records (records_after (is_full file page) (any_pseudokey file.header.settings.keyer (key_of call)) call (records_of page)) page

abbrev pub reply_at : PlacedFile → Call → Page → Reply
reply_at file call page = reply_by (is_full file page) (any_pseudokey file.header.settings.keyer (key_of call)) call page

-- ---- cells

abbrev pub no_slot : Slot
no_slot = record { number = 0; page = 0 }

-- the cell of a page at whose low bound nothing was split yet
abbrev pub new_cell : ℕ → Cell
new_cell number = record { number = number; slots = replicate SLOTS no_slot }

abbrev pub slot_of : Cell → ℕ → Slot
slot_of cell len = get_or cell.slots len no_slot

-- one change more at the prefix of a length, whose page is at this place
abbrev pub with_change : ℕ → ℕ → Cell → Cell
with_change len page cell = record cell { slots = slice_set cell.slots len (record { number = (slot_of cell len).number + 1; page = page }) }

-- ---- splits

-- a live page, and its cell
pub record IsLiveIn (file : PlacedFile) (place : ℕ) (prefix : List Bool) (link : Option ℕ) (records : List Record) (cell : Cell) : Type 0 where
  pub page_is : slice_get file.pages place ≡ Some (Live prefix link records)
  pub cell_is : slice_get file.cells place ≡ Some cell

-- it is full, and shorter than LIMIT
pub record IsFullIn (file : PlacedFile) (place : ℕ) (prefix : List Bool) (link : Option ℕ) (records : List Record) (cell : Cell) : Type 0 where
  pub there : IsLiveIn file place prefix link records cell
  pub full : file.header.settings.cap ≤ length records
  pub short : length prefix < LIMIT

-- the ward of a prefix, and how many pages it has
abbrev pub ward_in : PlacedFile → List Bool → ℕ
ward_in file prefix = ward_of file.header.settings.ward_bits (low_of prefix)

abbrev pub count_in : PlacedFile → List Bool → ℕ
count_in file prefix = slice_index file.header.page_counts (ward_in file prefix)

-- the halves: the right half's page has this number in the ward
abbrev pub left_half : List Bool → ℕ → List Record → Page
left_half prefix right records = Live (prefix ++ false ∷ []) (Some right) (begun_by (prefix ++ false ∷ []) records)

abbrev pub right_half : List Bool → Option ℕ → List Record → Page
right_half prefix link records = Live (prefix ++ true ∷ []) link (begun_by (prefix ++ true ∷ []) records)

-- the right half is a new page, behind the others
abbrev pub split_fresh : ℕ → List Bool → Option ℕ → List Record → Cell → PlacedFile → PlacedFile
split_fresh place prefix link records cell file =
    with_page place (left_half prefix (count_in file prefix) records)
    (with_cell place (with_change (length prefix) (length file.pages) cell)
    (with_more (ward_in file prefix) (right_half prefix link records) (new_cell (count_in file prefix)) file))

-- the right half is the forwarding page at a place, with this number in the ward, made live again
abbrev pub split_revived : ℕ → List Bool → Option ℕ → List Record → Cell → ℕ → ℕ → PlacedFile → PlacedFile
split_revived place prefix link records cell right number file =
    with_page right (right_half prefix link records)
    (with_page place (left_half prefix number records)
    (with_cell place (with_change (length prefix) right cell) file))

-- ---- merges

-- the page of a place gets the records of its right buddy at another, which sends callers on to it
abbrev pub merged : ℕ → ℕ → List Bool → Option ℕ → List Record → List Record → Cell → PlacedFile → PlacedFile
merged place right prefix link records more cell file =
    with_page right (Forward (low_of (prefix ++ true ∷ [])) cell.number)
    (with_page place (Live prefix link (records ++ more))
    (with_cell place (with_change (length prefix) right cell) file))
