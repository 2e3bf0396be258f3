use Rattle.exh_file.specs.TurnLemmas.{AreTurns}
use Rattle.exh_file.proofs.ward_change.change_ward.Given as goal

abbrev pub invariant-turns : goal.invariant-turns
invariant-turns g l = AreTurns l.fn.ward l.pseudokey l.turn l.ward
