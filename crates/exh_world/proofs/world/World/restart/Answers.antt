use Rattle.std.proofs.Common.{◌≡◌, ◌<◌, ◌^◌, length, refl, sym, ap, ◌∙◌, subst, Ok, None, inl}
use Rattle.std.specs.Prelude.{slice_set}
use Rattle.exh_array.specs.Copies.{CopiesState}
use Rattle.exh_world.specs.WorldKept.{IsKeptWorld}
use Rattle.exh_world.specs.Sound.{IsSoundWorld}
use Rattle.exh_world.specs.Step.{HasRestarted}
use Rattle.exh_world.specs.World.{WorldState, numbered}
use Rattle.exh_walk.specs.declared.event.Event.TheVariants.{Restart}
use Rattle.exh_walk.specs.declared.outcome.Outcome.TheVariants.{Restarted}
use Rattle.exh_world.proofs.CopySteps.{kept_after, placed_there, refused_same, has_restarted}
use Rattle.exh_world.proofs.InsideWorld.{with_copies}
use Rattle.exh_world.proofs.world.World.restart.Given as Given
use Rattle.exh_world.proofs.world.World.restart.Goals as goal

pub restart-requires : goal.restart-requires
restart-requires g c = (c.in-Some.ensures.some c.self.inside.copies.copies (sym c.count.ensures)).1

-- the copies once one was restarted
left : (g : Given.Over) (c : goal.In_ok-restart g) → c.restart.new.self ≡ record c.self.inside.copies { copies = slice_set c.self.inside.copies.copies c.in-Some.at c.self.inside.copies.start }
left g c = c.in_ok-restart.ensures.ok

few : (g : Given.Over) (c : goal.In_ok-restart g) → length c.self.inside.copies.sent < 2 ^ 32
few g c = c.self.invariant.0.few_sent

pub returns-clause-step : goal.returns-clause-step
returns-clause-step g c =
    let placed = c.in-Some.ensures.some c.self.inside.copies.copies (sym c.count.ensures) in
    let own = placed_there c.self.inside.copies.copies c.args.copy c.in-Some.at placed in
    subst (λ (copies : CopiesState). HasRestarted c.args.self.now c.args.copy (with_copies c.self.inside copies)) (sym (left g c))
    (has_restarted c.self.view_is c.self.invariant.0 c.args.copy c.in-Some.at placed own.0 own.1)

pub invariant_of-self-2 : goal.invariant_of-self-2
invariant_of-self-2 g c = (
  kept_after c.self.view_is c.self.invariant.0 c.steps_keep_worlds_sound.ensures (Restart c.args.copy) (Ok Restarted) _ (returns-clause-step g c) refl refl
      (subst (λ (copies : CopiesState). length copies.sent < 2 ^ 32) (sym (left g c)) (few g c)),
  ap (λ (copies : CopiesState). copies.ward_bits) (left g c) ∙ c.self.invariant.1,
)

pub returns-clause-sound : goal.returns-clause-sound
returns-clause-sound g c = (invariant_of-self-2 g c).0.sound

pub returns-in_err-restart-clause-step : goal.returns-in_err-restart-clause-step
returns-in_err-restart-clause-step g c =
    refused_same c.self.view_is c.self.invariant.0 (Restart c.args.copy) c.from_residual.result _ (ap (with_copies c.self.inside) c.in_err-restart.ensures.err) c.from_residual.ensures

pub invariant_of-self : goal.invariant_of-self
invariant_of-self g c = (
  subst (IsKeptWorld g.K.Keyer.pseudokey_of) (sym (ap (with_copies c.self.inside) c.in_err-restart.ensures.err)) c.self.invariant.0,
  ap (λ (copies : CopiesState). copies.ward_bits) c.in_err-restart.ensures.err ∙ c.self.invariant.1,
)

pub returns-in_err-restart-clause-sound : goal.returns-in_err-restart-clause-sound
returns-in_err-restart-clause-sound g c = (invariant_of-self g c).0.sound

pub returns-in_default-clause-step : goal.returns-in_default-clause-step
returns-in_default-clause-step g c =
    let none = c.in_default.ensures.none c.self.inside.copies.copies (sym c.count.ensures) in
    inl (refl {a = c.args.self.now}, inl (subst (λ (w : WorldState g.row.K.Denot). numbered w.copies c.args.copy ≡ None) c.self.view_is none))

pub returns-in_default-clause-sound : goal.returns-in_default-clause-sound
returns-in_default-clause-sound g c = subst (IsSoundWorld g.K.Keyer.pseudokey_of) c.self.view_is c.self.invariant.0.sound
