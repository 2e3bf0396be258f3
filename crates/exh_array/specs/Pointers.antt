-- The doubled array of pointers of a table.
use Rattle.std.specs.Prelude.{◌≡◌, ◌≢◌, ℕ, ◌<◌, ◌^◌, Bool, List, length, option_map, slice_get, Option, Some}
use Rattle.std.specs.FinMap.{get}
use Rattle.exh_prefix.specs.Leading.{leading}
use Rattle.exh_table.specs.declared.leaf.Leaf.{Leaf}
use Rattle.exh_table.specs.Table.{TableMap}
use Rattle.exh_table.specs.TableWalk.{walk_of}
use Rattle.exh_table.specs.Leaves.{leaves_of}
use Rattle.exh_table.specs.Directory.{IsDepth}
use Rattle.exh_array.specs.declared.pointer.Pointer.{Pointer}

-- a file's ward bits, the depth of its directory, and the pointers in the order of the leading bits
pub record PointerArray : Type 0 where
  pub ward_bits : ℕ
  pub depth : ℕ
  pub pointers : List Pointer

-- what the array holds of a leaf
abbrev pub pointer_to : Leaf → Pointer
pointer_to leaf = record { page = leaf.page; local_depth = length leaf.prefix }

-- the array is the table's: as deep as its directory, with 2 to the depth pointers, and for each pseudokey there stands,
-- at the pseudokey's leading bits, the leaf where its walk stops
pub record IsArrayOf (table : TableMap) (array : PointerArray) : Type 0 where
  pub depth : IsDepth (leaves_of table array.ward_bits) array.depth
  pub full : length array.pointers ≡ 2 ^ array.depth
  pub each : (pseudokey : ℕ) → pseudokey < 2 ^ 64 → slice_get array.pointers (leading array.depth pseudokey) ≡ Some (pointer_to (walk_of table array.ward_bits pseudokey))

-- the pointer that stands at a pseudokey's leading bits
abbrev pub pointer_at : PointerArray → ℕ → Option Pointer
pointer_at array pseudokey = slice_get array.pointers (leading array.depth pseudokey)

-- the pseudokey's pointer is to the page
abbrev pub NamesPageOf : PointerArray → ℕ → ℕ → Type 0
NamesPageOf array pseudokey page = option_map (λ pointer. pointer.page) (pointer_at array pseudokey) ≡ Some page

-- a copy of the directory: a table, and an array of pointers
pub record DirectoryState : Type 0 where
  pub table : TableMap
  pub pointers : PointerArray

-- the pointers are the table's array, in a file of so many ward bits
pub record HasArrayOf (ward_bits : ℕ) (directory : DirectoryState) : Type 0 where
  pub bits : directory.pointers.ward_bits ≡ ward_bits
  pub array : IsArrayOf directory.table directory.pointers

-- the tables have the same entries but at that prefix
abbrev pub DifferAtMostAt : List Bool → TableMap → TableMap → Type 0
DifferAtMostAt prefix one other = (at : List Bool) → at ≢ prefix → get one at ≡ get other at
