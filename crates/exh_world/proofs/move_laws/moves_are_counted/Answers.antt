use Rattle.std.proofs.Common.{[], refl, subst}
use Rattle.std.specs.Prelude.{Result}
use Rattle.std.proofs.lemmas.List.Elements.{All-from_recursion, recursion_from_All}
use Rattle.exh_world.specs.Counted.{LeavesOpen, moves_over}
use Rattle.exh_world.specs.WorldLaws.{AreWardsSound}
use Rattle.exh_world.specs.RequestMoves.{IsBounded}
use Rattle.exh_world.specs.WorldRun.{Moment, answered_in}
use Rattle.exh_world.specs.Step.{Step}
use Rattle.exh_walk.specs.declared.event.Event.{Event}
use Rattle.exh_walk.specs.declared.event.Event.TheVariants.{Hop}
use Rattle.exh_walk.specs.declared.outcome.Outcome.{Outcome}
use Rattle.exh_walk.specs.declared.step_fault.StepFault.{StepFault}
use Rattle.exh_world.proofs.BegunNear.{begun_near}
use Rattle.exh_world.proofs.BoundedAnswers.{run_bounded}
use Rattle.exh_world.proofs.CountedAnswers.{counted_of}
use Rattle.exh_world.proofs.CountedParts.{count_moves}
use Rattle.exh_world.proofs.GoingOn.{run_on, run_sound, step_on}
use Rattle.exh_world.proofs.HeadlineOf.{sound_around}
use Rattle.exh_world.proofs.move_laws.moves_are_counted.Goals as goal

pub returns-clause-near : goal.returns-clause-near
returns-clause-near g c old now name client copy call number page sound begins request named table there ward found =
    begun_near g.K.Keyer.pseudokey_of old sound name client copy call number page now begins c.distances_are_few.ensures c.late_tables_are_near.ensures c.one_distance.ensures request named table there ward found

pub returns-clause-bounded : goal.returns-clause-bounded
returns-clause-bounded g c start moments end sound wards run =
    let pseudokey_of = g.K.Keyer.pseudokey_of in
    let around = sound_around pseudokey_of c.steps_keep_worlds_sound.ensures start moments end sound (recursion_from_All (λ (moment : Moment g.row.K.Denot). AreWardsSound pseudokey_of moment.after) moments wards) run in
    All-from_recursion IsBounded (answered_in moments) (run_bounded pseudokey_of start moments end around run)

pub returns-clause-go_on : goal.returns-clause-go_on
returns-clause-go_on g c now moments later sound run name request named unmet distance away =
    run_on g.K.Keyer.pseudokey_of c.steps_keep_worlds_sound.ensures c.runs_keep_wards_sound_and_one_map.ensures.sound c.steps_add_changes.ensures c.moves_come_nearer.ensures name now moments later sound run request named
    (recursion_from_All (λ (moment : Moment g.row.K.Denot). LeavesOpen name moment.turn.event moment.turn.result) moments unmet) distance away

pub returns-clause-answers : goal.returns-clause-answers
returns-clause-answers g c now moments answering after sound run name request named unmet distance away ward reply moves bound step =
    let pseudokey_of = g.K.Keyer.pseudokey_of in
    let goes = returns-clause-go_on g c now moments answering sound run name request named unmet distance away in
    let there = run_sound pseudokey_of c.steps_keep_worlds_sound.ensures c.runs_keep_wards_sound_and_one_map.ensures.sound now moments answering sound run in
    counted_of pseudokey_of now answering after there name request distance (moves_over name moments) goes ward reply moves bound step

pub returns-clause-steps : goal.returns-clause-steps
returns-clause-steps g c old event result new sound step =
    let pseudokey_of = g.K.Keyer.pseudokey_of in
    let P : Event → Result Outcome StepFault → Type 0 = λ e r. Step pseudokey_of old e r new in
    record {
      goes_on = λ name request named unmet distance away. step_on pseudokey_of c.steps_add_changes.ensures c.moves_come_nearer.ensures old sound name request named distance away event result new step unmet;
      answers = λ name ward reply moves bound hops told request named distance away.
          let hop = subst (P (Hop name)) told (subst (λ e. P e result) hops step) in
          returns-clause-answers g c old [] old new sound refl name request named (All-from_recursion (λ (moment : Moment g.row.K.Denot). LeavesOpen name moment.turn.event moment.turn.result) [] tt) distance away ward reply moves bound hop;
    }

pub returns-clause-runs : goal.returns-clause-runs
returns-clause-runs g c =
    count_moves g.K.Keyer.pseudokey_of c.steps_keep_worlds_sound.ensures c.runs_keep_wards_sound_and_one_map.ensures.sound (returns-clause-go_on g c) (returns-clause-answers g c)
