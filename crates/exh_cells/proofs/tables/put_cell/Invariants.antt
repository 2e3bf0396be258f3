use Rattle.std.proofs.Common.{Bool, List, ◌++◌}
use Rattle.exh_notice.specs.declared.entry.Entry.{Entry}
use Rattle.exh_format.specs.Table.{IsTableOf}
use Rattle.exh_cells.specs.Told.{told_by_slots}
use Rattle.exh_cells.proofs.tables.put_cell.Given as goal

abbrev pub invariant-loop-len : goal.invariant-loop-len
invariant-loop-len l = (told : List (List Bool × Entry)) → IsTableOf told l.fn.table → IsTableOf (told ++ told_by_slots l.cells l.low l.cell.slots l.len) l.table
