use Rattle.std.proofs.Common.{◌≡◌, None, slice_get, inl, refl, subst, Ok}
use Rattle.std.proofs.lemmas.Option.{slice_get_past}
use Rattle.exh_notice.specs.declared.notice.Notice.{Notice}
use Rattle.exh_ward.specs.SplitStep.{IsSplitStep}
use Rattle.exh_ward.specs.WardFault.{SplitRefused}
use Rattle.exh_ward.specs.WardState.{WardState}
use Rattle.exh_world.specs.Step.{IsRefused, ReachesInto, Step}
use Rattle.exh_world.specs.World.{WorldState}
use Rattle.exh_walk.specs.declared.event.Event.TheVariants.{Split}
use Rattle.exh_walk.specs.declared.outcome.Outcome.TheVariants.{Changed}
use Rattle.exh_world.proofs.WardChanges.{after, world_changed, world_kept, same_kept, leaves_refused, of_refusal, change_refused}
use Rattle.exh_world.proofs.world.World.split.Goals as goal

pub returns-clause-step : goal.returns-clause-step
returns-clause-step g c =
    world_changed c.self.view_is c.self.invariant.0 c.in-Some.ensures.item.3.0 c.in-Some.ensures.value c.split.new.self IsSplitStep c.args.page c.in_ok-notice.notice c.in_ok-notice.ensures.ok

pub invariant_of-self-2 : goal.invariant_of-self-2
invariant_of-self-2 g c = (
  world_kept c.self.view_is c.self.invariant.0 c.in-Some.ensures.item.3.0 c.in-Some.ensures.value c.split.new.self
      c.steps_keep_worlds_sound.ensures (Split c.args.ward c.args.page) (Ok (Changed c.in_ok-notice.notice)) (returns-clause-step g c) c.split.ensures.sound,
  c.self.invariant.1,
)

pub returns-clause-sound : goal.returns-clause-sound
returns-clause-sound g c = (invariant_of-self-2 g c).0.sound

pub invariant_of-self-in_err-notice : goal.invariant_of-self-in_err-notice
invariant_of-self-in_err-notice g c =
    (same_kept c.self.view_is c.self.invariant.0 c.in-Some.ensures.item.3.0 c.in-Some.ensures.value c.split.new.self c.in_err-notice.ensures.err, c.self.invariant.1)

pub returns-in_err-notice-clause-sound : goal.returns-in_err-notice-clause-sound
returns-in_err-notice-clause-sound g c = (invariant_of-self-in_err-notice g c).0.sound

pub returns-in_err-notice-clause-step : goal.returns-in_err-notice-clause-step
returns-in_err-notice-clause-step g c =
    let old = c.args.self.now in
    let event = Split c.args.ward c.args.page in
    let fault = c.in_err-notice.field-0.0 in
    let fits = c.in-Some.ensures.item.3.0 in
    let lent = c.in-Some.ensures.value in
    let left = c.split.new.self in
    let new = after c.self.view_is c.self.invariant.0 fits lent left in
    of_refusal (λ result. Step g.K.Keyer.pseudokey_of old event result new) c.from_residual.result fault c.from_residual.ensures
    (leaves_refused c.self.view_is c.self.invariant.0 fits lent left c.in_err-notice.ensures.err (ReachesInto g.K.Keyer.pseudokey_of old event) (IsRefused old event) refl Notice fault c.in_err-notice.ensures.failures
    (λ other. inl (change_refused c.self.view_is c.self.invariant.0 fits lent left (λ (ward : WardState g.row.K.Denot). SplitRefused ward.cap ward.pages) c.args.page fault c.in_err-notice.ensures.refused other)))

pub returns-in_default-clause-step : goal.returns-in_default-clause-step
returns-in_default-clause-step g c =
    inl (c.self.view_is, inl (subst (λ (w : WorldState g.row.K.Denot). slice_get w.wards c.args.ward ≡ None) c.self.view_is (slice_get_past c.self.inside.wards.items c.args.ward c.in_default.ensures.item.3)))
