use Rattle.std.proofs.Common.{◌≡◌, ◌<◌, ◌^◌, ◌++◌, ◌∷◌, [], suc, length, refl, sym, ap, ◌∙◌, subst, Ok, arith, None, inl, inr}
use Rattle.std.proofs.lemmas.List.{length_push}
use Rattle.exh_array.specs.Copies.{CopiesState}
use Rattle.exh_world.specs.WorldKept.{IsKeptWorld}
use Rattle.exh_world.specs.Sound.{IsSoundWorld}
use Rattle.exh_world.specs.Step.{HasSent}
use Rattle.exh_world.specs.World.{WorldState, numbered}
use Rattle.exh_walk.specs.declared.event.Event.TheVariants.{Send}
use Rattle.exh_walk.specs.declared.outcome.Outcome.TheVariants.{Sent}
use Rattle.exh_world.proofs.CopySteps.{kept_after, placed_there, refused_same, has_sent}
use Rattle.exh_world.proofs.InsideWorld.{with_copies}
use Rattle.exh_world.proofs.world.World.send.Given as Given
use Rattle.exh_world.proofs.world.World.send.Goals as goal

pub send-requires : goal.send-requires
send-requires g c = (c.in-Some.ensures.some c.self.inside.copies.copies (sym c.count.ensures)).1

-- the copies once the table was sent
left : (g : Given.Over) (c : goal.In_ok-send g) → c.send.new.self ≡ record c.self.inside.copies { sent = c.self.inside.copies.sent ++ (placed_there c.self.inside.copies.copies c.args.copy c.in-Some.at (c.in-Some.ensures.some c.self.inside.copies.copies (sym c.count.ensures))).0 ∷ [] }
left g c =
    let own = placed_there c.self.inside.copies.copies c.args.copy c.in-Some.at (c.in-Some.ensures.some c.self.inside.copies.copies (sym c.count.ensures)) in
    c.in_ok-send.ensures.ok own.0 own.1

few : (g : Given.Over) (c : goal.In_ok-send g) → length (c.self.inside.copies.sent ++ (placed_there c.self.inside.copies.copies c.args.copy c.in-Some.at (c.in-Some.ensures.some c.self.inside.copies.copies (sym c.count.ensures))).0 ∷ []) < 2 ^ 32
few g c = omega (arith, c.in-Ok.ensures.0, c.in-Ok.ensures.1, c.sent_count.ensures.count, length_push c.self.inside.copies.sent (placed_there c.self.inside.copies.copies c.args.copy c.in-Some.at (c.in-Some.ensures.some c.self.inside.copies.copies (sym c.count.ensures))).0)

pub returns-clause-step : goal.returns-clause-step
returns-clause-step g c =
    let placed = c.in-Some.ensures.some c.self.inside.copies.copies (sym c.count.ensures) in
    let own = placed_there c.self.inside.copies.copies c.args.copy c.in-Some.at placed in
    subst (λ (copies : CopiesState). HasSent c.args.self.now c.args.copy c.in-Ok.number (with_copies c.self.inside copies)) (sym (left g c))
    (let number : c.in-Ok.number ≡ suc (length c.self.inside.copies.sent) = omega (arith, c.in-Ok.ensures.1, c.sent_count.ensures.count) in
    has_sent c.self.view_is c.self.invariant.0 c.args.copy c.in-Some.at placed own.0 own.1 c.in-Ok.number own.0 (c.self.inside.copies.sent ++ own.0 ∷ []) number refl refl)

pub invariant_of-self-2 : goal.invariant_of-self-2
invariant_of-self-2 g c = (
  kept_after c.self.view_is c.self.invariant.0 c.steps_keep_worlds_sound.ensures (Send c.args.copy) (Ok (Sent c.in-Ok.number)) _ (returns-clause-step g c) refl refl
      (subst (λ (copies : CopiesState). length copies.sent < 2 ^ 32) (sym (left g c)) (few g c)),
  ap (λ (copies : CopiesState). copies.ward_bits) (left g c) ∙ c.self.invariant.1,
)

pub returns-clause-sound : goal.returns-clause-sound
returns-clause-sound g c = (invariant_of-self-2 g c).0.sound

pub returns-in_err-send-clause-step : goal.returns-in_err-send-clause-step
returns-in_err-send-clause-step g c =
    refused_same c.self.view_is c.self.invariant.0 (Send c.args.copy) c.from_residual.result _ (ap (with_copies c.self.inside) c.in_err-send.ensures.err) c.from_residual.ensures

pub invariant_of-self : goal.invariant_of-self
invariant_of-self g c = (
  subst (IsKeptWorld g.K.Keyer.pseudokey_of) (sym (ap (with_copies c.self.inside) c.in_err-send.ensures.err)) c.self.invariant.0,
  ap (λ (copies : CopiesState). copies.ward_bits) c.in_err-send.ensures.err ∙ c.self.invariant.1,
)

pub returns-in_err-send-clause-sound : goal.returns-in_err-send-clause-sound
returns-in_err-send-clause-sound g c = (invariant_of-self g c).0.sound

pub returns-in_default-clause-step : goal.returns-in_default-clause-step
returns-in_default-clause-step g c =
    let none = c.in_default.ensures.none c.self.inside.copies.copies (sym c.count.ensures) in
    inl (refl {a = c.args.self.now}, inl (subst (λ (w : WorldState g.row.K.Denot). numbered w.copies c.args.copy ≡ None) c.self.view_is none))

pub returns-in_default-clause-sound : goal.returns-in_default-clause-sound
returns-in_default-clause-sound g c = subst (IsSoundWorld g.K.Keyer.pseudokey_of) c.self.view_is c.self.invariant.0.sound

pub returns-in_default-try_from-clause-step : goal.returns-in_default-try_from-clause-step
returns-in_default-try_from-clause-step g c = inl (refl {a = c.args.self.now}, inr refl)

pub returns-in_default-try_from-clause-sound : goal.returns-in_default-try_from-clause-sound
returns-in_default-try_from-clause-sound g c = subst (IsSoundWorld g.K.Keyer.pseudokey_of) c.self.view_is c.self.invariant.0.sound

pub overflow_add-sent_count : goal.overflow_add-sent_count
overflow_add-sent_count g c = omega (arith, c.sent_count.ensures.small)
