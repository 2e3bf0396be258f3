use Rattle.std.proofs.Common.{◌≡◌, drop}
use Rattle.exh_live.specs.Refusals.{first_refusal}
use Rattle.exh_live.proofs.outcomes.first_refusal.Given as goal

-- the outcomes so far are no refusals
abbrev pub invariant-loop-outcome : goal.invariant-loop-outcome
invariant-loop-outcome l = first_refusal l.outcomes ≡ first_refusal (drop l.outcome-index l.outcomes)
