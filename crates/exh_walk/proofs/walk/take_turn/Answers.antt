use Rattle.std.proofs.Common.{refl}
use Rattle.exh_ward.specs.declared.hop.Hop.TheVariants.{Done, Moved, Stray}
use Rattle.exh_walk.specs.CallerWalk.{fault_at}
use Rattle.exh_walk.proofs.Turns.{hop_turn, hop_turn_as, split_turn, next_of_fault}
use Rattle.exh_walk.proofs.walk.take_turn.Goals as goal

pub returns-in-Ok-Done-clause-turn : goal.returns-in-Ok-Done-clause-turn
returns-in-Ok-Done-clause-turn g c = hop_turn_as g.S.Steps.step _ _ c.args.page c.args.client c.args.call.now c.args.pseudokey _ (Done c.in-Ok-Done.reply) _ c.in-Ok-Done.field-0-is c.in-Ok-Done.ensures.step refl

pub returns-in-Ok-Moved-clause-turn : goal.returns-in-Ok-Moved-clause-turn
returns-in-Ok-Moved-clause-turn g c = hop_turn_as g.S.Steps.step _ _ c.args.page c.args.client c.args.call.now c.args.pseudokey _ (Moved c.in-Ok-Moved.next) _ c.in-Ok-Moved.field-0-is c.in-Ok-Moved.ensures.step refl

pub returns-in-Ok-Stray-clause-turn : goal.returns-in-Ok-Stray-clause-turn
returns-in-Ok-Stray-clause-turn g c = hop_turn_as g.S.Steps.step _ _ c.args.page c.args.client c.args.call.now c.args.pseudokey _ Stray _ c.in-Ok-Stray.field-0-is c.in-Ok-Stray.ensures.step refl

pub returns-in-Ok-MustSplit-clause-turn : goal.returns-in-Ok-MustSplit-clause-turn
returns-in-Ok-MustSplit-clause-turn g c = split_turn g.S.Steps.step _ _ _ c.args.page c.args.client c.args.call.now c.args.pseudokey _ _ c.in-Ok-MustSplit.field-0-is c.in-Ok-MustSplit.ensures.step c.split_full.ensures.turn

pub returns-in-Err-clause-turn : goal.returns-in-Err-clause-turn
returns-in-Err-clause-turn g c =
    hop_turn g.S.Steps.step _ _ c.args.page c.args.client c.args.call.now c.args.pseudokey _ _ c.in-Err.ensures.step (next_of_fault c.args.page (fault_at c.in-Err.fault) c.of_hop.result c.of_hop.ensures)
