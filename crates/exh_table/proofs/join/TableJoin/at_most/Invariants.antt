use Rattle.std.proofs.Common.{◌↔◌}
use Rattle.exh_table.specs.TableOrder.{IsTableUpTo}
use Rattle.exh_table.proofs.Compared.{AllUpTo}
use Rattle.exh_table.proofs.join.TableJoin.at_most.Given as goal

-- what is left decides
abbrev pub invariant-loop-prefix : goal.invariant-loop-prefix
invariant-loop-prefix l = AllUpTo l.other l.prefix-iterator ↔ IsTableUpTo l.self l.other
