use Rattle.std.proofs.Common.{take}
use Rattle.exh_calls.specs.Settled.{AreApart}
use Rattle.exh_calls.proofs.settlement.are_apart.Given as goal

-- the diaries so far are of different callers
abbrev pub invariant-loop-at : goal.invariant-loop-at
invariant-loop-at l = AreApart (take l.at l.diaries)
