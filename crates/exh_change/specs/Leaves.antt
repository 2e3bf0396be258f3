-- The leaves of a page file of version 3: how many blocks a call edits as its key's leaf changes, and which pages a del merges.
use Rattle.std.specs.Prelude.{◌≡◌, ◌⊎◌, ℕ, ◌+◌, ◌-◌, ◌*◌, ◌/◌, ◌^◌, ◌<◌, ◌≤◌, Bool, true, false, min, List, [], ◌∷◌, ◌++◌, length, map, slice_get, slice_set, Option, None, Some}
use Rattle.exh_prefix.specs.declared.prefix.TheConstants.{LIMIT}
use Rattle.exh_prefix.specs.Prefix.{Begins}
use Rattle.exh_page.specs.declared.page.Page.{Page}
use Rattle.exh_page.specs.declared.page.Page.TheVariants.{Forward, Live}
use Rattle.exh_page.specs.declared.record.Record.{Record}
use Rattle.exh_calls.specs.declared.call.Call.{Call}
use Rattle.exh_calls.specs.declared.call.Call.TheVariants.{Del, Get, Put, Swap}
use Rattle.exh_cells.specs.declared.cell.Cell.{Cell}
use Rattle.exh_cells.specs.PlacedFile.{PlacedFile}
use Rattle.exh_edits.specs.declared.block_edit.BlockEdit.{BlockEdit}
use Rattle.exh_change.specs.PlacedSteps.{IsLiveIn, slot_of}

-- the prefix of a live page, none where it forwards
abbrev pub leaf_of : Page → Option (List Bool)
leaf_of (Live prefix link records) = Some prefix
leaf_of (Forward low target) = None

-- of each page, in the order of their places
abbrev pub leaves_in : PlacedFile → List (Option (List Bool))
leaves_in file = map leaf_of file.pages

-- the leaf that begins the pseudokey
pub record IsLeaf (file : PlacedFile) (pseudokey : ℕ) (prefix : List Bool) : Type 0 where
  pub place : ℕ
  pub there : slice_get (leaves_in file) place ≡ Some (Some prefix)
  pub begins : Begins prefix pseudokey

-- ---- how many blocks are edited

-- at most, whatever the bytes are
abbrev pub most_edits : Call → ℕ
most_edits (Get key) = 0
most_edits (Put key value) = 3 + 2 * LIMIT
most_edits (Del key) = 5
most_edits (Swap key old new) = 2

-- where a leaf becomes longer or shorter by so many digits: the header's and the page's, from one digit on the walk block of its cell, and with each digit a page and its walk block more
abbrev pub edits_for : ℕ → ℕ
edits_for digits = 2 + min digits 1 + 2 * digits

-- no more than for the digits by which the pseudokey's leaf is longer or shorter in the new file
pub record AreFew (file new : PlacedFile) (pseudokey : ℕ) (edits : List BlockEdit) : Type 0 where
  pub old_leaf : List Bool
  pub new_leaf : List Bool
  pub old_is : IsLeaf file pseudokey old_leaf
  pub new_is : IsLeaf new pseudokey new_leaf
  pub few : length edits ≤ edits_for ((length new_leaf - length old_leaf) + (length old_leaf - length new_leaf))

-- ---- which pages are merged

-- the halves of a prefix, which isn't shorter than the ward's and whose number isn't the greatest, are live, and have no more than half of cap records together
pub record MayMerge (file : PlacedFile) (prefix : List Bool) (left right : ℕ) : Type 0 where
  pub link : Option ℕ
  pub right_link : Option ℕ
  pub records : List Record
  pub right_records : List Record
  pub cell : Cell
  pub left_is : IsLiveIn file left (prefix ++ false ∷ []) link records cell
  pub right_is : slice_get file.pages right ≡ Some (Live (prefix ++ true ∷ []) right_link right_records)
  pub few : length records + length right_records ≤ file.header.settings.cap / 2
  pub inner : file.header.settings.ward_bits ≤ length prefix
  pub number : (slot_of cell (length prefix)).number < 2 ^ 32 - 1

abbrev pub IsOneOf : ℕ → ℕ → ℕ → Type 0
IsOneOf place left right = (place ≡ left) ⊎ (place ≡ right)

-- the left half has their prefix, and the right half forwards
abbrev pub united_leaves : List Bool → ℕ → ℕ → PlacedFile → List (Option (List Bool))
united_leaves prefix left right file = slice_set (slice_set (leaves_in file) left (Some prefix)) right None

-- the page at a place and its buddy may be merged, and are
pub record IsMerged (file : PlacedFile) (place : ℕ) (new : PlacedFile) : Type 0 where
  pub prefix : List Bool
  pub left : ℕ
  pub right : ℕ
  pub one : IsOneOf place left right
  pub may : MayMerge file prefix left right
  pub leaves : leaves_in new ≡ united_leaves prefix left right file

abbrev pub MayNotMerge : PlacedFile → ℕ → Type 0
MayNotMerge file place = (prefix : List Bool) (left right : ℕ) → IsOneOf place left right → MayMerge file prefix left right → ⊥

-- or they may not, and all pages keep their prefixes
abbrev pub IsSettled : PlacedFile → ℕ → PlacedFile → Type 0
IsSettled file place new = IsMerged file place new ⊎ (MayNotMerge file place × (leaves_in new ≡ leaves_in file))
