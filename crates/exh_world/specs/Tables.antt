-- What the tables of a world tell: of each ward no more than the ward's own.
use Rattle.std.specs.Prelude.{◌≡◌, ◌⊎◌, ℕ, Bool, List, slice_get, Some, Contains}
use Rattle.std.specs.FinMap.{get}
use Rattle.exh_prefix.specs.Leading.{ward_prefix}
use Rattle.exh_prefix.specs.Prefix.{IsFront}
use Rattle.exh_notice.specs.declared.entry.Entry.{Entry}
use Rattle.exh_notice.specs.declared.notice.Notice.{Notice}
use Rattle.exh_table.specs.Table.{TableMap, told_by}
use Rattle.exh_table.specs.TableOrder.{IsOptionUpTo, IsTableUpTo}
use Rattle.exh_ward.specs.WardState.{WardState}
use Rattle.exh_world.specs.World.{WorldState, changes_in, numbered}

-- at each prefix of a ward the one table has no entry, or the other has one at least as great
abbrev pub IsUpToIn : List Bool → TableMap → TableMap → Type 0
IsUpToIn ward table other = (prefix : List Bool) → IsFront ward prefix → IsOptionUpTo (get table prefix) (get other prefix)

-- a table that a copy of the world may have: it tells what the start table tells, and of each ward no more than the ward's own
pub record TellsTruly {K : Type 0} (world : WorldState K) (table : TableMap) : Type 0 where
  pub start : IsTableUpTo world.start table
  pub wards : (number : ℕ) (ward : WardState K) → slice_get world.wards number ≡ Some ward → IsUpToIn (ward_prefix world.ward_bits number) table ward.table

-- each entry that a table has at a prefix of the ward is the start table's, or that of one of the changes
abbrev pub ComesFrom : List Bool → TableMap → List Notice → TableMap → Type 0
ComesFrom ward start changes table = (prefix : List Bool) (entry : Entry) → IsFront ward prefix → get table prefix ≡ Some entry
    → (get start prefix ≡ Some entry) ⊎ ((notice : Notice) × Contains changes notice × (told_by notice ≡ (prefix, entry)))

-- the start table, each copy's and each sent one is such a table, and each ward's own comes from the start table and the ward's changes
pub record IsToldTruly {K : Type 0} (world : WorldState K) : Type 0 where
  pub start : TellsTruly world world.start
  pub copies : (copy : ℕ) (table : TableMap) → numbered world.copies copy ≡ Some table → TellsTruly world table
  pub sent : (number : ℕ) (table : TableMap) → numbered world.sent number ≡ Some table → TellsTruly world table
  pub wards : (number : ℕ) (ward : WardState K) → slice_get world.wards number ≡ Some ward → ComesFrom (ward_prefix world.ward_bits number) world.start (changes_in world number) ward.table
