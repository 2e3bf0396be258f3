use Rattle.std.proofs.Common.{◌≡◌, length}
use Rattle.beside_live.proofs.faults.take_steps.Given as goal

-- the courier has one cursor
abbrev pub invariant-steps : goal.invariant-steps
invariant-steps g l = length l.cursors ≡ 1
