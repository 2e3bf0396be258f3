use Rattle.exh_cells.proofs.CellTables.{same_tables, same_told}
use Rattle.exh_cells.proofs.laws.cells_and_tables_tell.Goals as goal

pub returns : goal.returns
returns c = record {
  tables = same_tables;
  cells = λ ward_bits lows cells others tables are too. same_told ward_bits lows tables cells others are too;
}
