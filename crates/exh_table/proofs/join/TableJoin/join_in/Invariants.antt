use Rattle.std.proofs.Common.{◌≡◌}
use Rattle.exh_table.specs.TableOrder.{table_join}
use Rattle.exh_table.specs.RaisedLemmas.{raised_all}
use Rattle.exh_table.proofs.join.TableJoin.join_in.Given as goal

-- what is left to be taken makes the join
abbrev pub invariant-loop-prefix : goal.invariant-loop-prefix
invariant-loop-prefix l = raised_all l.joined l.prefix-iterator ≡ table_join l.self l.other
