use Rattle.std.proofs.Common.{◌≡◌, ℕ, ◌^◌, ◌<◌, ◌≤◌, inr, sym, ap, ◌∙◌, subst, arith, rules, None, inl, refl}
use Rattle.std.specs.Option.{option_copied}
use Rattle.exh_ward.specs.declared.hop.Hop.{Hop}
use Rattle.exh_world.specs.Sound.{IsSoundWorld}
use Rattle.exh_world.specs.Step.{HasEffect, IsRefused, ReachesInto, Step}
use Rattle.exh_world.specs.InFlight.{request_named}
use Rattle.exh_world.specs.World.{WorldState}
use Rattle.exh_walk.specs.declared.event.Event.TheVariants.{Hop as HopOn}
use Rattle.exh_world.proofs.HopSteps.{at_within, reaches, hashed, covered, had_few, changed_since, bound_told, bound_small, noticed_within, room, hopped_to, hopped_kept}
use Rattle.exh_walk.specs.declared.outcome.Outcome.{Outcome}
use Rattle.exh_walk.specs.EventProgress.{Progress, hop_outcome, progress_with}
use Rattle.exh_world.specs.RequestProgress.{progress_of}
use Rattle.exh_world.proofs.InsideWorld.{with_ward, within_len, world_of}
use Rattle.exh_world.proofs.world.World.hop.Given.{Over}
use Rattle.exh_world.proofs.WardChanges.{after, leaves_refused, memory_of, of_refusal, same_kept}
use Rattle.exh_world.proofs.world.World.hop.Goals as goal

at_most : (since now counted : ℕ) → now ≡ counted → since ≤ counted → since ≤ now
at_most since now counted is had = omega (arith, is, had)

pub index_mut-ward-requires : goal.index_mut-ward-requires
index_mut-ward-requires g c =
    let i = c.self.inside in
    let named = sym c.get.ensures ∙ ap option_copied c.in-Some.is in
    within_len _ _ _ i.wards.ok.0 (at_within g.K.Keyer.pseudokey_of i c.self.invariant.0 c.args.name c.in-Some.request.now named c.from.result c.from.ensures)

pub hop_hashed-requires-clause-hashed : goal.hop_hashed-requires-clause-hashed
hop_hashed-requires-clause-hashed g c =
    let named = sym c.get.ensures ∙ ap option_copied c.in-Some.is in
    hashed g.K.Keyer.pseudokey_of c.self.inside c.self.invariant.0 c.args.name c.in-Some.request.now named c.from.result c.from.ensures _ c.index_mut-ward.ensures.value

pub hop_hashed-requires-clause-covered : goal.hop_hashed-requires-clause-covered
hop_hashed-requires-clause-covered g c =
    let named = sym c.get.ensures ∙ ap option_copied c.in-Some.is in
    covered g.K.Keyer.pseudokey_of c.self.inside c.self.invariant.0 c.args.name c.in-Some.request.now named c.from.result c.from.ensures _ c.index_mut-ward.ensures.value

pub invariant_of-self : goal.invariant_of-self
invariant_of-self g c =
    let named = sym c.get.ensures ∙ ap option_copied c.in-Some.is in
    let fits = at_within g.K.Keyer.pseudokey_of c.self.inside c.self.invariant.0 c.args.name c.in-Some.request.now named c.from.result c.from.ensures in
    (same_kept c.self.view_is c.self.invariant.0 fits c.index_mut-ward.ensures.value c.hop_hashed.new.self c.in_err-hop.ensures.err, c.self.invariant.1)

pub returns-in_err-hop-clause-step : goal.returns-in_err-hop-clause-step
returns-in_err-hop-clause-step g c =
    let pseudokey_of = g.K.Keyer.pseudokey_of in
    let old = c.args.self.now in
    let event = HopOn c.args.name in
    let fault = c.in_err-hop.field-0.0 in
    let named = sym c.get.ensures ∙ ap option_copied c.in-Some.is in
    let fits = at_within pseudokey_of c.self.inside c.self.invariant.0 c.args.name c.in-Some.request.now named c.from.result c.from.ensures in
    let new = after c.self.view_is c.self.invariant.0 fits c.index_mut-ward.ensures.value c.hop_hashed.new.self in
    of_refusal (λ result. Step pseudokey_of old event result new) c.from_residual.result fault c.from_residual.ensures
    (leaves_refused c.self.view_is c.self.invariant.0 fits c.index_mut-ward.ensures.value c.hop_hashed.new.self c.in_err-hop.ensures.err (ReachesInto pseudokey_of old event) (IsRefused old event)
    (reaches pseudokey_of c.self.inside c.self.invariant.0 c.args.name c.in-Some.request.now named c.from.result c.from.ensures old c.self.view_is) Hop fault c.in_err-hop.ensures.failures
    (λ other. inr (memory_of fault c.in_err-hop.ensures.fault other)))

pub returns-in_err-hop-clause-sound : goal.returns-in_err-hop-clause-sound
returns-in_err-hop-clause-sound g c = (invariant_of-self g c).0.sound

pub index-requires : goal.index-requires
index-requires g c =
    let i = c.self.inside in
    let named = sym c.get.ensures ∙ ap option_copied c.in-Some.is in
    within_len _ _ _ i.noticed.ok.0 (noticed_within g.K.Keyer.pseudokey_of i c.self.invariant.0 c.args.name c.in-Some.request.now named c.from.result c.from.ensures _ c.index_mut-ward.ensures.value c.from-2.result c.from-2.ensures)

pub changes_since-changes-requires : goal.changes_since-changes-requires
changes_since-changes-requires g c =
    let named = sym c.get.ensures ∙ ap option_copied c.in-Some.is in
    had_few g.K.Keyer.pseudokey_of c.self.inside c.self.invariant.0 c.args.name c.in-Some.request.now named c.from.result c.from.ensures _ c.index_mut-ward.ensures.value c.from-2.result c.from-2.ensures c.index.result.now c.index.ensures

pub overflow_sub-bound : goal.overflow_sub-bound
overflow_sub-bound g c =
    let named = sym c.get.ensures ∙ ap option_copied c.in-Some.is in
    at_most _ _ _ c.changes_since-changes.ensures.count
    (changed_since g.K.Keyer.pseudokey_of c.self.inside c.self.invariant.0 c.args.name c.in-Some.request.now named c.from.result c.from.ensures _ c.index_mut-ward.ensures.value c.from-2.result c.from-2.ensures c.index.result.now c.index.ensures)

pub note_hop-requires : goal.note_hop-requires
note_hop-requires g c =
    let named = sym c.get.ensures ∙ ap option_copied c.in-Some.is in
    let far : c.in-Some.request.now.distance < 2 ^ 32 = search rules in
    let small = bound_small g.K.Keyer.pseudokey_of c.self.inside c.self.invariant.0 c.args.name c.in-Some.request.now named c.from.result c.from.ensures _ c.index_mut-ward.ensures.value c.from-2.result c.from-2.ensures
    c.index.result.now c.index.ensures c.changes_since-changes.result c.changes_since-changes.ensures.count c.changes_since-changes.ensures.small far in
    record { room = room g.K.Keyer.pseudokey_of c.self.inside c.self.invariant.0 c.args.name c.in-Some.request.now named c.from.result c.from.ensures _ c.index_mut-ward.ensures.value c.moves_come_nearer.ensures c.in_ok-hop.hop c.in_ok-hop.ensures.hop small }

-- what the hop came to, with the moves and their bound
abbrev told : (g : Over) (c : goal.After-of_hop g) → Progress
told g c = progress_of (world_of c.self.inside) c.in-Some.request.now c.in_ok-hop.hop

outcome_told : (g : Over) (c : goal.After-of_hop g) → c.of_hop.result ≡ hop_outcome c.in-Some.request.now.ward (told g c)
outcome_told g c =
    let named = sym c.get.ensures ∙ ap option_copied c.in-Some.is in
    c.of_hop.ensures
    ∙ ap (λ bound. hop_outcome c.in-Some.request.now.ward (progress_with c.in_ok-hop.hop c.in-Some.request.now.moves bound))
    (bound_told g.K.Keyer.pseudokey_of c.self.inside c.self.invariant.0 c.args.name c.in-Some.request.now named c.from.result c.from.ensures _ c.index_mut-ward.ensures.value c.from-2.result c.from-2.ensures
    c.index.result.now c.index.ensures c.from-3.result c.changes_since-changes.result c.from-3.ensures c.changes_since-changes.ensures.count)

pub invariant_of-self-2 : goal.invariant_of-self-2
invariant_of-self-2 g c =
    let named = sym c.get.ensures ∙ ap option_copied c.in-Some.is in (
      hopped_kept g.K.Keyer.pseudokey_of c.self.inside c.self.invariant.0 c.args.name c.in-Some.request.now named c.from.result c.from.ensures _ c.index_mut-ward.ensures.value c.hop_hashed.new.self c.in_ok-hop.hop
          c.in_ok-hop.ensures.hop c.in_ok-hop.ensures.leaves c.note_hop.new.self c.note_hop.ensures (told g c) refl c.steps_keep_worlds_sound.ensures c.in_ok-hop.ensures.sound,
      c.self.invariant.1,
    )

pub returns-clause-step : goal.returns-clause-step
returns-clause-step g c =
    let pseudokey_of = g.K.Keyer.pseudokey_of in
    let named = sym c.get.ensures ∙ ap option_copied c.in-Some.is in
    let new = with_ward c.self.inside c.from.result c.hop_hashed.new.self c.note_hop.new.self in
    let to = hop_outcome c.in-Some.request.now.ward (told g c) in
    let P : Outcome → Type 0 = λ outcome. HasEffect pseudokey_of c.args.self.now (HopOn c.args.name) outcome new in
    subst P (sym (outcome_told g c))
    (subst (λ (old : WorldState g.row.K.Denot). HasEffect pseudokey_of old (HopOn c.args.name) to new) c.self.view_is
    (hopped_to pseudokey_of c.self.inside c.self.invariant.0 c.args.name c.in-Some.request.now named c.from.result c.from.ensures _ c.index_mut-ward.ensures.value c.hop_hashed.new.self c.in_ok-hop.hop
    c.in_ok-hop.ensures.hop c.in_ok-hop.ensures.leaves c.note_hop.new.self c.note_hop.ensures (told g c) refl))

pub returns-clause-sound : goal.returns-clause-sound
returns-clause-sound g c = (invariant_of-self-2 g c).0.sound

pub returns-in_default-clause-step : goal.returns-in_default-clause-step
returns-in_default-clause-step g c =
    inl (refl {a = c.args.self.now}, inl (subst (λ (w : WorldState g.row.K.Denot). request_named c.args.name w.in_flight ≡ None) c.self.view_is (sym c.in_default.ensures)))

pub returns-in_default-clause-sound : goal.returns-in_default-clause-sound
returns-in_default-clause-sound g c = subst (IsSoundWorld g.K.Keyer.pseudokey_of) c.self.view_is c.self.invariant.0.sound

pub overflow_add-bound : goal.overflow_add-bound
overflow_add-bound g c =
    let far : c.in-Some.request.now.distance < 2 ^ 32 = search rules in
    omega (arith, far, c.from-3.ensures, c.changes_since-changes.ensures.small)
