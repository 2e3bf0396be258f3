use Rattle.exh_load.proofs.ToldHomes.{AreToldTurns}
use Rattle.exh_load.proofs.put.put_pair.Given as goal

abbrev pub invariant-turns : goal.invariant-turns
invariant-turns g l = AreToldTurns l.fn.ward l.pseudokey l.turn l.ward l.directory
