use Rattle.std.specs.Prelude.{◌≡◌}
use Rattle.exh_fakes.proofs.live_step.are_refilled.Given as goal

-- the caller looks at the same copy
abbrev pub invariant-times : goal.invariant-times
invariant-times g l = l.caller.copy.name ≡ l.fn.caller.copy.name
