use Rattle.exh_array.specs.Pointers.{pointer_to}
use Rattle.exh_array.proofs.Ranges.{IsFilled}
use Rattle.exh_array.proofs.pointers.Pointers.point.Given as goal

abbrev pub invariant-loop-at : goal.invariant-loop-at
invariant-loop-at l = IsFilled l.fn.self l.self l.from l.at (pointer_to l.leaf)
