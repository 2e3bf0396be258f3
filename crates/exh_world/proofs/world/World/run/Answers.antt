use Rattle.std.proofs.Common.{List, [], sym, ◌∙◌, subst, arith}
use Rattle.std.proofs.lemmas.List.{take_all}
use Rattle.std.proofs.lemmas.Result.{IfOk-from_err}
use Rattle.exh_walk.specs.declared.turn.Turn.{Turn}
use Rattle.exh_world.specs.Sound.{IsSoundWorld}
use Rattle.exh_world.proofs.Runs.{HasRun, none_run, one_more, bounded_of, current_of, headline_of, moves_of, others_of}
use Rattle.exh_world.proofs.world.World.run.Goals as goal

pub loop-event-preserved : goal.loop-event-preserved
loop-event-preserved g c =
    let pseudokey_of = g.K.Keyer.pseudokey_of in
    record {
      has_run = one_more pseudokey_of c.args.self.now c.args.events.now c.loop-event.event-index c.loop-event.turns.items c.push_reserved.new.self.items c.loop-event.self c.loop-event.invariant.has_run
          c.event-item.result c.loop-event-test.true c.event-item.is c.step-result.result c.step-result.new.self c.step-result.ensures.step c.step-result.ensures.sound c.push_reserved.ensures.items;
      sound = c.step-result.ensures.sound;
      room = omega (arith, c.loop-event.invariant.room, c.push_reserved.ensures.len, c.push_reserved.ensures.capacity, c.loop-event-test.true);
    }

pub returns-clause-headline : goal.returns-clause-headline
returns-clause-headline g c =
    let pseudokey_of = g.K.Keyer.pseudokey_of in
    headline_of pseudokey_of c.runs_carry_the_headline.ensures c.args.self.now _ c.loop-event.turns.items c.loop-event.self
    (subst (IsSoundWorld pseudokey_of) c.self.view_is c.self.invariant.0.sound) c.loop-event.invariant.has_run

pub returns-clause-bounded : goal.returns-clause-bounded
returns-clause-bounded g c =
    let pseudokey_of = g.K.Keyer.pseudokey_of in
    bounded_of pseudokey_of c.moves_are_counted.ensures.bounded c.args.self.now _ c.loop-event.turns.items c.loop-event.self
    (subst (IsSoundWorld pseudokey_of) c.self.view_is c.self.invariant.0.sound) c.loop-event.invariant.has_run

pub returns-clause-moves : goal.returns-clause-moves
returns-clause-moves g c =
    let pseudokey_of = g.K.Keyer.pseudokey_of in
    moves_of pseudokey_of c.moves_are_counted.ensures.runs c.args.self.now _ c.loop-event.turns.items c.loop-event.self
    (subst (IsSoundWorld pseudokey_of) c.self.view_is c.self.invariant.0.sound) c.loop-event.invariant.has_run

pub returns-clause-current : goal.returns-clause-current
returns-clause-current g c =
    let pseudokey_of = g.K.Keyer.pseudokey_of in
    current_of pseudokey_of c.current_copies_look_once.ensures.runs c.args.self.now _ c.loop-event.turns.items c.loop-event.self
    (subst (IsSoundWorld pseudokey_of) c.self.view_is c.self.invariant.0.sound) c.loop-event.invariant.has_run

pub returns-clause-others : goal.returns-clause-others
returns-clause-others g c = others_of g.K.Keyer.pseudokey_of c.refused_turns_leave_the_others.ensures c.args.self.now _ c.loop-event.turns.items c.loop-event.self c.loop-event.invariant.has_run

pub returns-clause-equal : goal.returns-clause-equal
returns-clause-equal g c = (returns-clause-headline g c).equal

pub returns-in_err-turns-clause-turns : goal.returns-in_err-turns-clause-turns
returns-in_err-turns-clause-turns g c = IfOk-from_err c.from_residual.result _ c.from_residual.ensures.0

pub returns-in_err-turns-clause-headline : goal.returns-in_err-turns-clause-headline
returns-in_err-turns-clause-headline g c = IfOk-from_err c.from_residual.result _ c.from_residual.ensures.0

pub returns-in_err-turns-clause-bounded : goal.returns-in_err-turns-clause-bounded
returns-in_err-turns-clause-bounded g c = IfOk-from_err c.from_residual.result _ c.from_residual.ensures.0

pub returns-in_err-turns-clause-moves : goal.returns-in_err-turns-clause-moves
returns-in_err-turns-clause-moves g c = IfOk-from_err c.from_residual.result _ c.from_residual.ensures.0

pub returns-in_err-turns-clause-current : goal.returns-in_err-turns-clause-current
returns-in_err-turns-clause-current g c = IfOk-from_err c.from_residual.result _ c.from_residual.ensures.0

pub returns-in_err-turns-clause-others : goal.returns-in_err-turns-clause-others
returns-in_err-turns-clause-others g c = IfOk-from_err c.from_residual.result _ c.from_residual.ensures.0

pub returns-in_err-turns-clause-equal : goal.returns-in_err-turns-clause-equal
returns-in_err-turns-clause-equal g c = IfOk-from_err c.from_residual.result _ c.from_residual.ensures.0

pub returns-in_err-turns-clause-sound : goal.returns-in_err-turns-clause-sound
returns-in_err-turns-clause-sound g c = subst (IsSoundWorld g.K.Keyer.pseudokey_of) c.self.view_is c.self.invariant.0.sound

pub loop-event-init : goal.loop-event-init
loop-event-init g c =
    let pseudokey_of = g.K.Keyer.pseudokey_of in
    let start = c.args.self.now in
    record {
      has_run = subst (λ (turns : List Turn). HasRun pseudokey_of start [] turns start) (sym c.in_ok-turns.ensures.items) (none_run pseudokey_of start);
      sound = subst (IsSoundWorld pseudokey_of) c.self.view_is c.self.invariant.0.sound;
      room = omega (arith, c.in_ok-turns.ensures.len, c.in_ok-turns.ensures.capacity);
    }

pub push_reserved-requires : goal.push_reserved-requires
push_reserved-requires g c = omega (arith, c.loop-event.invariant.room, c.loop-event-test.true)

pub returns-clause-turns : goal.returns-clause-turns
returns-clause-turns g c = c.loop-event.invariant.has_run.events_are ∙ take_all c.loop-event.event-index c.args.events.now c.loop-event-test.false

pub returns-clause-err : goal.returns-clause-err
returns-clause-err g c = tt

pub returns-clause-sound : goal.returns-clause-sound
returns-clause-sound g c = c.loop-event.invariant.sound
