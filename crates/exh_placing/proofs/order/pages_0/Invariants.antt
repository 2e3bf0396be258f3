use Rattle.std.proofs.Common.{◌≡◌}
use Rattle.exh_placing.specs.Order.{first_pages}
use Rattle.exh_placing.proofs.order.pages_0.Given as goal

abbrev pub invariant-loop-ward : goal.invariant-loop-ward
invariant-loop-ward l = l.order.items ≡ first_pages l.ward
