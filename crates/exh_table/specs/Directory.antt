-- The directory of a set of leaves.
use Rattle.std.specs.Prelude.{◌≡◌, ℕ, ◌<◌, ◌≤◌, ◌^◌, Bool, List, length, slice_get, Some}
use Rattle.exh_prefix.specs.Leading.{leading}
use Rattle.exh_prefix.specs.Prefix.{Begins}
use Rattle.exh_table.specs.Leaves.{PrefixSet}

-- the name of a pseudokey: the one leaf that begins it
pub record IsName (leaves : PrefixSet) (pseudokey : ℕ) (name : List Bool) : Type 0 where
  pub leaf : leaves name
  pub begins : Begins name pseudokey
  pub only : (other : List Bool) → leaves other → Begins other pseudokey → other ≡ name

-- the depth: the greatest length of a leaf
pub record IsDepth (leaves : PrefixSet) (depth : ℕ) : Type 0 where
  pub reached : (leaf : List Bool) × leaves leaf × (length leaf ≡ depth)
  pub greatest : (leaf : List Bool) → leaves leaf → length leaf ≤ depth

-- the directory: 2 ^ depth names, in the order of the leading bits
pub record IsDirectory (leaves : PrefixSet) (names : List (List Bool)) : Type 0 where
  pub depth : ℕ
  pub is_depth : IsDepth leaves depth
  pub full : length names ≡ 2 ^ depth
  pub each : (pseudokey : ℕ) → pseudokey < 2 ^ 64 → (name : List Bool) × (slice_get names (leading depth pseudokey) ≡ Some name) × IsName leaves pseudokey name
