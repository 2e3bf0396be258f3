use Rattle.std.proofs.Common.{◌≡◌, ℕ, List, Result, sym, subst}
use Rattle.exh_world.specs.Counted.{CountsMoves, StepsCountMoves}
use Rattle.exh_world.specs.Sound.{IsSoundWorld}
use Rattle.exh_world.specs.Step.{Step}
use Rattle.exh_world.specs.World.{WorldState}
use Rattle.exh_walk.specs.declared.event.Event.{Event}
use Rattle.exh_walk.specs.declared.outcome.Outcome.{Outcome}
use Rattle.exh_walk.specs.declared.step_fault.StepFault.{StepFault}
use Rattle.exh_world.proofs.world.World.step.Goals as goal

-- of the event that was asked, which is the method's
told : {K : Type 0} (pseudokey_of : K → List ℕ → ℕ) (old : WorldState K) (event made : Event) → event ≡ made → (result : Result Outcome StepFault) (new : WorldState K) → Step pseudokey_of old made result new → Step pseudokey_of old event result new
told pseudokey_of old event made is result new = subst (λ e. Step pseudokey_of old e result new) (sym is)

counted : {K : Type 0} (pseudokey_of : K → List ℕ → ℕ) → StepsCountMoves pseudokey_of → (shown old : WorldState K) → shown ≡ old → IsSoundWorld pseudokey_of shown → (event made : Event) → event ≡ made
    → (result : Result Outcome StepFault) (new : WorldState K) → Step pseudokey_of old made result new → CountsMoves old event result new
counted pseudokey_of law shown old view_is sound event made is result new step =
    law old event result new (subst (IsSoundWorld pseudokey_of) view_is sound) (told pseudokey_of old event made is result new step)

pub returns-in-Begin-clause-moves : goal.returns-in-Begin-clause-moves
returns-in-Begin-clause-moves g c = counted g.K.Keyer.pseudokey_of c.moves_are_counted.ensures.steps _ c.args.self.now c.self.view_is c.self.invariant.0.sound c.args.event.now _ c.in-Begin.is c.begin.result c.begin.new.self c.begin.ensures.step

pub returns-in-Hop-clause-moves : goal.returns-in-Hop-clause-moves
returns-in-Hop-clause-moves g c = counted g.K.Keyer.pseudokey_of c.moves_are_counted.ensures.steps _ c.args.self.now c.self.view_is c.self.invariant.0.sound c.args.event.now _ c.in-Hop.is c.hop.result c.hop.new.self c.hop.ensures.step

pub returns-in-Split-clause-moves : goal.returns-in-Split-clause-moves
returns-in-Split-clause-moves g c = counted g.K.Keyer.pseudokey_of c.moves_are_counted.ensures.steps _ c.args.self.now c.self.view_is c.self.invariant.0.sound c.args.event.now _ c.in-Split.is c.split.result c.split.new.self c.split.ensures.step

pub returns-in-Merge-clause-moves : goal.returns-in-Merge-clause-moves
returns-in-Merge-clause-moves g c = counted g.K.Keyer.pseudokey_of c.moves_are_counted.ensures.steps _ c.args.self.now c.self.view_is c.self.invariant.0.sound c.args.event.now _ c.in-Merge.is c.merge.result c.merge.new.self c.merge.ensures.step

pub returns-in-Deliver-clause-moves : goal.returns-in-Deliver-clause-moves
returns-in-Deliver-clause-moves g c = counted g.K.Keyer.pseudokey_of c.moves_are_counted.ensures.steps _ c.args.self.now c.self.view_is c.self.invariant.0.sound c.args.event.now _ c.in-Deliver.is c.deliver.result c.deliver.new.self c.deliver.ensures.step

pub returns-in-Send-clause-moves : goal.returns-in-Send-clause-moves
returns-in-Send-clause-moves g c = counted g.K.Keyer.pseudokey_of c.moves_are_counted.ensures.steps _ c.args.self.now c.self.view_is c.self.invariant.0.sound c.args.event.now _ c.in-Send.is c.send.result c.send.new.self c.send.ensures.step

pub returns-in-Combine-clause-moves : goal.returns-in-Combine-clause-moves
returns-in-Combine-clause-moves g c = counted g.K.Keyer.pseudokey_of c.moves_are_counted.ensures.steps _ c.args.self.now c.self.view_is c.self.invariant.0.sound c.args.event.now _ c.in-Combine.is c.combine.result c.combine.new.self c.combine.ensures.step

pub returns-in-Restart-clause-moves : goal.returns-in-Restart-clause-moves
returns-in-Restart-clause-moves g c = counted g.K.Keyer.pseudokey_of c.moves_are_counted.ensures.steps _ c.args.self.now c.self.view_is c.self.invariant.0.sound c.args.event.now _ c.in-Restart.is c.restart.result c.restart.new.self c.restart.ensures.step

pub returns-in-Begin-clause-step : goal.returns-in-Begin-clause-step
returns-in-Begin-clause-step g c = told g.K.Keyer.pseudokey_of c.args.self.now c.args.event.now _ c.in-Begin.is c.begin.result c.begin.new.self c.begin.ensures.step

pub returns-in-Hop-clause-step : goal.returns-in-Hop-clause-step
returns-in-Hop-clause-step g c = told g.K.Keyer.pseudokey_of c.args.self.now c.args.event.now _ c.in-Hop.is c.hop.result c.hop.new.self c.hop.ensures.step

pub returns-in-Split-clause-step : goal.returns-in-Split-clause-step
returns-in-Split-clause-step g c = told g.K.Keyer.pseudokey_of c.args.self.now c.args.event.now _ c.in-Split.is c.split.result c.split.new.self c.split.ensures.step

pub returns-in-Merge-clause-step : goal.returns-in-Merge-clause-step
returns-in-Merge-clause-step g c = told g.K.Keyer.pseudokey_of c.args.self.now c.args.event.now _ c.in-Merge.is c.merge.result c.merge.new.self c.merge.ensures.step

pub returns-in-Deliver-clause-step : goal.returns-in-Deliver-clause-step
returns-in-Deliver-clause-step g c = told g.K.Keyer.pseudokey_of c.args.self.now c.args.event.now _ c.in-Deliver.is c.deliver.result c.deliver.new.self c.deliver.ensures.step

pub returns-in-Send-clause-step : goal.returns-in-Send-clause-step
returns-in-Send-clause-step g c = told g.K.Keyer.pseudokey_of c.args.self.now c.args.event.now _ c.in-Send.is c.send.result c.send.new.self c.send.ensures.step

pub returns-in-Combine-clause-step : goal.returns-in-Combine-clause-step
returns-in-Combine-clause-step g c = told g.K.Keyer.pseudokey_of c.args.self.now c.args.event.now _ c.in-Combine.is c.combine.result c.combine.new.self c.combine.ensures.step

pub returns-in-Restart-clause-step : goal.returns-in-Restart-clause-step
returns-in-Restart-clause-step g c = told g.K.Keyer.pseudokey_of c.args.self.now c.args.event.now _ c.in-Restart.is c.restart.result c.restart.new.self c.restart.ensures.step
