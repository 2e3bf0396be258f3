use Rattle.exh_walk.specs.CallerWalk.{ServesOn}
use Rattle.exh_walk.proofs.Turns.{Stands}
use Rattle.exh_walk.proofs.walk.walk_hashed.Given as goal

abbrev pub invariant-loop-turns : goal.invariant-loop-turns
invariant-loop-turns g l =
    Stands g.S.Steps.step (g.G.Gate.may l.gate l.client) l.fn.steps l.fn.at l.client l.call l.pseudokey l.page l.turns l.steps
    × g.S.Steps.serves l.steps l.call l.pseudokey
    × ServesOn g.S.Steps.serves l.fn.steps l.steps
