use Rattle.std.proofs.Common.{◌<◌, ◌*◌, ℕ}
use Rattle.exh_calls.specs.Beside.{IsSameFrom}
use Rattle.exh_calls.specs.declared.settlement.TheConstants.{ROW}
use Rattle.exh_calls.proofs.settlement.is_same.Given as goal

-- in the rows so far the wards have the same of the caller as the diary
abbrev pub invariant-loop-row : goal.invariant-loop-row
invariant-loop-row g l = (k : ℕ) → k < l.row → IsSameFrom (g.J.Journals.ward_of l.journals) (g.J.Journals.journals_of l.journals) l.diary (k * ROW)
