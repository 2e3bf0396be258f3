use Rattle.std.proofs.Common.{◌≡◌, ℕ, ◌^◌, Some, length}
use Rattle.std.specs.List.{slice_get}
use Rattle.exh_format.specs.Table.{IsTableOf, TableMap}
use Rattle.exh_cells.specs.Told.{told_by_places}
use Rattle.exh_cells.proofs.tables.tables_of_cells.Given as goal

abbrev pub invariant-loop-place : goal.invariant-loop-place
invariant-loop-place l = record {
  count_is : length l.tables.items ≡ 2 ^ l.ward_bits;
  each : (ward : ℕ) (table : TableMap) → slice_get l.tables.items ward ≡ Some table → IsTableOf (told_by_places l.ward_bits ward l.lows l.cells l.place) table;
}
