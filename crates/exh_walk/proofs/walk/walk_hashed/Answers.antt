use Rattle.std.proofs.Common.{rules, ◌+◌, arith}
use Rattle.exh_walk.proofs.Turns.{goes_on, answered, refused}
use Rattle.exh_walk.proofs.walk.walk_hashed.Goals as goal

pub loop-turns-preserved : goal.loop-turns-preserved
loop-turns-preserved g c = (
  goes_on g.S.Steps.step (g.G.Gate.may c.args.gate.now c.args.client) _ _ _ c.args.at c.args.client c.args.call.now c.args.pseudokey _ c.loop-turns.turns _ c.loop-turns.invariant.0
      (c.loop-turns.turns + 1) (omega arith) (search rules) c.take_turn.ensures.turn _ (search rules),
  c.take_turn.ensures.serves _ _ c.loop-turns.invariant.1,
  λ call pseudokey serves. c.take_turn.ensures.serves call pseudokey (c.loop-turns.invariant.2 call pseudokey serves),
)

pub returns-in-Ok-Answered-clause-walk : goal.returns-in-Ok-Answered-clause-walk
returns-in-Ok-Answered-clause-walk g c =
    answered g.S.Steps.step (g.G.Gate.may c.args.gate.now c.args.client) _ _ _ c.args.at c.args.client c.args.call.now c.args.pseudokey _ c.loop-turns.turns _ c.loop-turns.invariant.0
    (c.loop-turns.turns + 1) (omega arith) (search rules) c.take_turn.ensures.turn _ (search rules)

pub returns-in-Err-clause-walk : goal.returns-in-Err-clause-walk
returns-in-Err-clause-walk g c =
    refused g.S.Steps.step (g.G.Gate.may c.args.gate.now c.args.client) _ _ _ c.args.at c.args.client c.args.call.now c.args.pseudokey _ c.loop-turns.turns _ c.loop-turns.invariant.0
    (c.loop-turns.turns + 1) (omega arith) (search rules) c.take_turn.ensures.turn _ (search rules)
