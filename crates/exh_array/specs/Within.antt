-- Arrays on the way from one table to another, which may be deeper than a table's directory.
use Rattle.std.specs.Prelude.{◌≡◌, ℕ, ◌<◌, ◌≤◌, ◌^◌, nat_eq, Bool, List, [], length, take, drop, filter, All, Option, Some, None}
use Rattle.exh_prefix.specs.Bits.{word_bits}
use Rattle.exh_prefix.specs.Prefix.{Begins}
use Rattle.exh_prefix.specs.declared.prefix.TheConstants.{LIMIT}
use Rattle.exh_table.specs.declared.leaf.Leaf.{Leaf}
use Rattle.exh_table.specs.Table.{TableMap}
use Rattle.exh_table.specs.TableWalk.{walk_on, walk_of}
use Rattle.exh_table.specs.Below.{splits_above}
use Rattle.exh_array.specs.declared.pointer.Pointer.{Pointer}
use Rattle.exh_array.specs.Pointers.{PointerArray, pointer_to, pointer_at}

-- whether a pointer is to a leaf of that length
abbrev pub is_deep : ℕ → Pointer → Bool
is_deep depth pointer = nat_eq pointer.local_depth depth

-- what holds of each array: how many pointers there are, how deep they may be, and how many are as deep as the array
pub record IsKept (deepest : ℕ) (array : PointerArray) : Type 0 where
  pub ward_bits : array.ward_bits ≤ LIMIT
  pub limit : array.depth ≤ LIMIT
  pub full : length array.pointers ≡ 2 ^ array.depth
  pub within : All (λ pointer. pointer.local_depth ≤ array.depth) array.pointers
  pub counted : deepest ≡ length (filter (is_deep array.depth) array.pointers)

-- the array has the table's leaves, and is deep enough for each of them
pub record HasLeavesOf (table : TableMap) (array : PointerArray) : Type 0 where
  pub deep : (pseudokey : ℕ) → pseudokey < 2 ^ 64 → length (walk_of table array.ward_bits pseudokey).prefix ≤ array.depth
  pub each : (pseudokey : ℕ) → pseudokey < 2 ^ 64 → pointer_at array pseudokey ≡ Some (pointer_to (walk_of table array.ward_bits pseudokey))

-- the walk for a pseudokey, from a place on
abbrev pub walk_from : TableMap → ℕ → Leaf → ℕ → Leaf
walk_from table ward_bits at pseudokey = walk_on (splits_above table ward_bits) (drop (length at.prefix) (take LIMIT (word_bits pseudokey))) at

-- the walk along a prefix's bits, from the empty prefix with page 0 on
abbrev pub walk_along : TableMap → ℕ → List Bool → Leaf
walk_along table ward_bits prefix = walk_on (splits_above table ward_bits) prefix (record { prefix = []; page = 0 })

-- the place of a prefix, if that walk comes so far
abbrev pub IsPlaceIn : TableMap → ℕ → List Bool → Option Leaf → Type 0
IsPlaceIn table ward_bits prefix None = length (walk_along table ward_bits prefix).prefix < length prefix
IsPlaceIn table ward_bits prefix (Some at) = (at.prefix ≡ prefix) × (walk_along table ward_bits prefix ≡ at)

-- both have the same pointer for each pseudokey
abbrev pub PointTheSame : PointerArray → PointerArray → Type 0
PointTheSame one other = (pseudokey : ℕ) → pseudokey < 2 ^ 64 → pointer_at one pseudokey ≡ pointer_at other pseudokey

-- below a place the new array has the leaves where the table's walks stop, and elsewhere what the old one had
pub record IsPointedBelow (table : TableMap) (at : Leaf) (old new : PointerArray) : Type 0 where
  pub ward_bits : new.ward_bits ≡ old.ward_bits
  pub depth : new.depth ≡ old.depth
  pub inside : (pseudokey : ℕ) → pseudokey < 2 ^ 64 → Begins at.prefix pseudokey → pointer_at new pseudokey ≡ Some (pointer_to (walk_from table old.ward_bits at pseudokey))
  pub outside : (pseudokey : ℕ) → pseudokey < 2 ^ 64 → (Begins at.prefix pseudokey → ⊥) → pointer_at new pseudokey ≡ pointer_at old pseudokey
