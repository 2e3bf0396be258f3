use Rattle.std.proofs.Common.{◌≤◌}
use Rattle.exh_text.proofs.line_number.line_number.Given as goal

abbrev pub invariant-loop-line : goal.invariant-loop-line
invariant-loop-line l = 1 ≤ l.number
