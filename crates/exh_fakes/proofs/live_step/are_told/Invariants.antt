use Rattle.std.specs.Prelude.{◌≡◌}
use Rattle.exh_fakes.proofs.live_step.are_told.Given as goal

-- the caller looks at the same copy
abbrev pub invariant-all : goal.invariant-all
invariant-all g l = l.caller.copy.name ≡ l.fn.caller.copy.name
