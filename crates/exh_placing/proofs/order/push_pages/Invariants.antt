use Rattle.std.proofs.Common.{◌≡◌, ◌++◌}
use Rattle.exh_placing.specs.Order.{pages_between}
use Rattle.exh_placing.proofs.order.push_pages.Given as goal

abbrev pub invariant-loop-number : goal.invariant-loop-number
invariant-loop-number l = l.order.items ≡ l.initial.order.items ++ pages_between l.ward l.from l.number
