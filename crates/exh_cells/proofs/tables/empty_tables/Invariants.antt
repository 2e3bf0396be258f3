use Rattle.std.proofs.Common.{◌≡◌, ℕ, Some, length}
use Rattle.std.specs.FinMap.{empty}
use Rattle.std.specs.List.{slice_get}
use Rattle.exh_format.specs.Table.{TableMap}
use Rattle.exh_cells.proofs.tables.empty_tables.Given as goal

abbrev pub invariant-loop-number : goal.invariant-loop-number
invariant-loop-number l = record {
  count_is : length l.tables.items ≡ l.number;
  none : (number : ℕ) (table : TableMap) → slice_get l.tables.items number ≡ Some table → table ≡ empty;
}
