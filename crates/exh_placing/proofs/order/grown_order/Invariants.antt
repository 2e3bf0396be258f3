use Rattle.std.proofs.Common.{◌≡◌, ◌++◌, get_or}
use Rattle.std.specs.List.{flat_map, range_with_len}
use Rattle.exh_placing.specs.Order.{own_in, pages_between}
use Rattle.exh_placing.proofs.order.grown_order.Given as goal

abbrev pub invariant-loop-ward : goal.invariant-loop-ward
invariant-loop-ward l = l.order.items ≡ l.placed ++ flat_map (λ ward. pages_between ward (own_in l.placed ward) (get_or l.counts ward 0)) (range_with_len 0 l.ward)
