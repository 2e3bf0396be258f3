-- What the copies of a directory keep.
use Rattle.std.specs.Prelude.{◌≡◌, ℕ, List, map, slice_get, Some}
use Rattle.exh_table.specs.Table.{TableMap}
use Rattle.exh_table.specs.TableOrder.{IsTableUpTo}
use Rattle.exh_array.specs.Pointers.{DirectoryState, HasArrayOf}
use Rattle.exh_array.specs.Held.{IsHeld}
use Rattle.exh_array.specs.declared.held_copy.HeldCopy.{HeldCopy}

-- of each copy its table is shown
abbrev pub tables_of : List HeldCopy → List TableMap
tables_of copies = map (λ copy. copy.directory.table) copies

-- of each copy holds what is known of it, and its array is of its table, at the start's ward bits; each sent table is at least the start
pub record AreKept (start : DirectoryState) (copies : List HeldCopy) (sent : List TableMap) : Type 0 where
  pub of_start : HasArrayOf start.pointers.ward_bits start
  pub arrays : (at : ℕ) (copy : HeldCopy) → slice_get copies at ≡ Some copy → HasArrayOf start.pointers.ward_bits copy.directory
  pub held : (at : ℕ) (copy : HeldCopy) → slice_get copies at ≡ Some copy → IsHeld start.table sent copy
  pub begun : (at : ℕ) (table : TableMap) → slice_get sent at ≡ Some table → IsTableUpTo start.table table
