use Rattle.std.proofs.Common.{◌≡◌, ◌-◌, length}
use Rattle.exh_calls.specs.Beside.{of_caller_from}
use Rattle.exh_calls.proofs.settlement.next_of.Given as goal

-- no entry so far was the caller's
abbrev pub invariant-loop-place : goal.invariant-loop-place
invariant-loop-place l = of_caller_from l.client l.journal.entries l.fn.place ≡ of_caller_from l.client l.journal.entries l.place

abbrev pub decreases-loop-place : goal.decreases-loop-place
decreases-loop-place l = length l.journal.entries - l.place
