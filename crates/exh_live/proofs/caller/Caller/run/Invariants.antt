use Rattle.exh_live.proofs.Calls.{IsServedSo}
use Rattle.exh_live.proofs.caller.Caller.run.Given as goal

-- the calls so far
abbrev pub invariant-loop-done : goal.invariant-loop-done
invariant-loop-done g l = IsServedSo l.client l.done l.seat
