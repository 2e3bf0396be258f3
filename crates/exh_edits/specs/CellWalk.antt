-- What walk blocks tell, and the walk for a pseudokey over it: a leaf's page is told by its place in the file.
use Rattle.std.specs.Prelude.{◌≡◌, ◌⊎◌, ℕ, zero, suc, ◌%◌, ◌<◌, ◌≤◌, false, List, [], ◌∷◌, ◌++◌, Some, length, take, get_or, slice_get}
use Rattle.exh_prefix.specs.declared.prefix.TheConstants.{LIMIT}
use Rattle.exh_prefix.specs.Bits.{word_bits}
use Rattle.exh_prefix.specs.Leading.{ward_of}
use Rattle.exh_table.specs.declared.leaf.Leaf.{Leaf}
use Rattle.exh_table.specs.TableWalk.{step}
use Rattle.exh_cells.specs.declared.cell.Cell.{Cell}
use Rattle.exh_cells.specs.declared.cell.Slot.{Slot}
use Rattle.exh_cells.specs.declared.places.TheConstants.{GROUP_PAGES}
use Rattle.exh_cells.specs.Places.{group_in}
use Rattle.exh_edits.specs.declared.walk_block.WalkBlock.{WalkBlock}

-- ---- what blocks tell

-- in one of them stands the cell of the page at a place
pub record IsCellAt (blocks : List WalkBlock) (place : ℕ) (cell : Cell) : Type 0 where
  pub index : ℕ
  pub block : WalkBlock
  pub read : slice_get blocks index ≡ Some block
  pub of_group : block.group ≡ group_in place
  pub there : slice_get block.cells.items (place % GROUP_PAGES) ≡ Some cell

-- the slot of a leaf's length, in the cell of its page
abbrev pub TellsSlot : List WalkBlock → Leaf → Slot → Type 0
TellsSlot blocks leaf slot = (cell : Cell) × IsCellAt blocks leaf.page cell × (slice_get cell.slots (length leaf.prefix) ≡ Some slot)

-- the slot is of a split
abbrev pub IsOfSplit : Slot → Type 0
IsOfSplit slot = slot.number % 2 ≡ 1

-- ---- the walk

-- it begins at the page of the place that the leading bits say
abbrev pub first_leaf : ℕ → ℕ → Leaf
first_leaf ward_bits pseudokey = record { prefix = take ward_bits (word_bits pseudokey); page = ward_of ward_bits pseudokey }

module _ (ward_bits pseudokey : ℕ) where
  -- over so many splits, which blocks tell, it has come to a leaf: over the bit 1 of a split the page is the slot's
  abbrev pub HasComeTo : List WalkBlock → ℕ → Leaf → Type 0
  HasComeTo blocks zero leaf = leaf ≡ first_leaf ward_bits pseudokey
  HasComeTo blocks (suc splits) leaf = (last : Leaf) × HasComeTo blocks splits last × (length last.prefix < LIMIT) × (slot : Slot) × TellsSlot blocks last slot × IsOfSplit slot
      × (leaf ≡ step last (get_or (word_bits pseudokey) (length last.prefix) false) slot.page)

  abbrev pub ComesTo : List WalkBlock → Leaf → Type 0
  ComesTo blocks leaf = (splits : ℕ) × HasComeTo blocks splits leaf

  -- and it ends there: no bit is left, or no split stands there
  abbrev pub EndsAt : List WalkBlock → Leaf → Type 0
  EndsAt blocks leaf = ComesTo blocks leaf × ((LIMIT ≤ length leaf.prefix) ⊎ ((slot : Slot) × TellsSlot blocks leaf slot × ¬ IsOfSplit slot))

  -- it comes to a leaf whose cell is in the block of a group, and asks for it
  abbrev pub AsksFor : List WalkBlock → ℕ → Type 0
  AsksFor blocks group = (leaf : Leaf) × ComesTo blocks leaf × (length leaf.prefix < LIMIT) × (group_in leaf.page ≡ group)

  -- each of the further blocks is asked for by the walk over those before it
  abbrev pub AreAsked : List WalkBlock → List WalkBlock → Type 0
  AreAsked before [] = Unit {0}
  AreAsked before (block ∷ more) = AsksFor before block.group × AreAsked (before ++ block ∷ []) more
