use Rattle.std.specs.Prelude.{◌≡◌}
use Rattle.exh_fakes.proofs.couriers.are_put.Given as goal

-- the caller looks at the same copy
abbrev pub invariant-puts : goal.invariant-puts
invariant-puts g l = l.caller.copy.name ≡ l.fn.caller.copy.name
