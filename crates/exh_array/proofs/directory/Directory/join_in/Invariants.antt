use Rattle.std.proofs.Common.{◌≡◌, length}
use Rattle.exh_table.specs.TableOrder.{table_join}
use Rattle.exh_table.specs.RaisedLemmas.{raised_all}
use Rattle.exh_array.specs.Pointers.{HasArrayOf}
use Rattle.exh_array.proofs.directory.Directory.join_in.Given as goal

-- what is left to be taken makes the join, and the array is the table's
abbrev pub invariant-loop-prefix : goal.invariant-loop-prefix
invariant-loop-prefix l = record {
  rest : raised_all l.joined.table l.entries ≡ table_join l.fn.self.table l.other;
  array : HasArrayOf l.fn.self.pointers.ward_bits l.joined;
}

abbrev pub decreases-loop-prefix : goal.decreases-loop-prefix
decreases-loop-prefix l = length l.entries
