use Rattle.std.proofs.Common.{◌≡◌, ◌<◌, ◌^◌, length, None, IsSome, inl, refl, sym, ap, ◌∙◌, subst, Ok}
use Rattle.std.specs.Prelude.{slice_set}
use Rattle.exh_array.specs.Copies.{CopiesState}
use Rattle.exh_table.specs.TableOrder.{table_join}
use Rattle.exh_world.specs.WorldKept.{IsKeptWorld}
use Rattle.exh_world.specs.Sound.{IsSoundWorld}
use Rattle.exh_world.specs.Step.{HasJoined}
use Rattle.exh_world.specs.World.{WorldState, numbered}
use Rattle.exh_walk.specs.declared.event.Event.TheVariants.{Combine}
use Rattle.exh_walk.specs.declared.outcome.Outcome.TheVariants.{Joined}
use Rattle.exh_world.proofs.CopySteps.{kept_after, is_there, placed_there, refused_same, has_joined}
use Rattle.exh_world.proofs.InsideWorld.{with_copies}
use Rattle.exh_world.proofs.world.World.combine.Given as Given
use Rattle.exh_world.proofs.world.World.combine.Goals as goal

pub combine-requires : goal.combine-requires
combine-requires g c = record {
  copy = (c.in-Some.ensures.some c.self.inside.copies.copies (sym c.count.ensures)).1;
  sent = (c.in-Some-place_of.ensures.some c.self.inside.copies.sent (sym c.sent_count.ensures.count)).1;
}

-- the copies once one joined a sent table
left : (g : Given.Over) (c : goal.In_ok-combine g)
    → c.combine.new.self ≡ record c.self.inside.copies { copies = slice_set c.self.inside.copies.copies c.in-Some.at (table_join (placed_there c.self.inside.copies.copies c.args.copy c.in-Some.at (c.in-Some.ensures.some c.self.inside.copies.copies (sym c.count.ensures))).0 (placed_there c.self.inside.copies.sent c.args.table c.in-Some-place_of.other (c.in-Some-place_of.ensures.some c.self.inside.copies.sent (sym c.sent_count.ensures.count))).0) }
left g c =
    let own = placed_there c.self.inside.copies.copies c.args.copy c.in-Some.at (c.in-Some.ensures.some c.self.inside.copies.copies (sym c.count.ensures)) in
    let other = placed_there c.self.inside.copies.sent c.args.table c.in-Some-place_of.other (c.in-Some-place_of.ensures.some c.self.inside.copies.sent (sym c.sent_count.ensures.count)) in
    c.in_ok-combine.ensures.ok own.0 other.0 own.1 other.1

few : (g : Given.Over) (c : goal.In_ok-combine g) → length c.self.inside.copies.sent < 2 ^ 32
few g c = c.self.invariant.0.few_sent

pub returns-clause-step : goal.returns-clause-step
returns-clause-step g c =
    let placed = c.in-Some.ensures.some c.self.inside.copies.copies (sym c.count.ensures) in
    let own = placed_there c.self.inside.copies.copies c.args.copy c.in-Some.at placed in
    subst (λ (copies : CopiesState). HasJoined c.args.self.now c.args.copy c.args.table (with_copies c.self.inside copies)) (sym (left g c))
    (let other = placed_there c.self.inside.copies.sent c.args.table c.in-Some-place_of.other (c.in-Some-place_of.ensures.some c.self.inside.copies.sent (sym c.sent_count.ensures.count)) in
    has_joined c.self.view_is c.self.invariant.0 c.args.copy c.in-Some.at placed own.0 own.1 c.args.table other.0 (table_join own.0 other.0) other.2 refl)

pub invariant_of-self-2 : goal.invariant_of-self-2
invariant_of-self-2 g c = (
  kept_after c.self.view_is c.self.invariant.0 c.steps_keep_worlds_sound.ensures (Combine c.args.copy c.args.table) (Ok Joined) _ (returns-clause-step g c) refl refl
      (subst (λ (copies : CopiesState). length copies.sent < 2 ^ 32) (sym (left g c)) (few g c)),
  ap (λ (copies : CopiesState). copies.ward_bits) (left g c) ∙ c.self.invariant.1,
)

pub returns-clause-sound : goal.returns-clause-sound
returns-clause-sound g c = (invariant_of-self-2 g c).0.sound

pub returns-in_err-combine-clause-step : goal.returns-in_err-combine-clause-step
returns-in_err-combine-clause-step g c =
    refused_same c.self.view_is c.self.invariant.0 (Combine c.args.copy c.args.table) c.from_residual.result _ (ap (with_copies c.self.inside) c.in_err-combine.ensures.err) c.from_residual.ensures

pub invariant_of-self : goal.invariant_of-self
invariant_of-self g c = (
  subst (IsKeptWorld g.K.Keyer.pseudokey_of) (sym (ap (with_copies c.self.inside) c.in_err-combine.ensures.err)) c.self.invariant.0,
  ap (λ (copies : CopiesState). copies.ward_bits) c.in_err-combine.ensures.err ∙ c.self.invariant.1,
)

pub returns-in_err-combine-clause-sound : goal.returns-in_err-combine-clause-sound
returns-in_err-combine-clause-sound g c = (invariant_of-self g c).0.sound

pub returns-in_default-place_of-clause-step : goal.returns-in_default-place_of-clause-step
returns-in_default-place_of-clause-step g c =
    let placed = c.in-Some.ensures.some c.self.inside.copies.copies (sym c.count.ensures) in
    let none = c.in_default-place_of.ensures.none c.self.inside.copies.sent (sym c.sent_count.ensures.count) in inl (
      refl {a = c.args.self.now},
      inl (
        subst (λ (w : WorldState g.row.K.Denot). IsSome (numbered w.copies c.args.copy)) c.self.view_is (is_there c.self.inside.copies.copies c.args.copy c.in-Some.at placed),
        subst (λ (w : WorldState g.row.K.Denot). numbered w.sent c.args.table ≡ None) c.self.view_is none,
      ),
    )

pub returns-in_default-clause-step : goal.returns-in_default-clause-step
returns-in_default-clause-step g c =
    let none = c.in_default.ensures.none c.self.inside.copies.copies (sym c.count.ensures) in
    inl (refl {a = c.args.self.now}, inl (subst (λ (w : WorldState g.row.K.Denot). numbered w.copies c.args.copy ≡ None) c.self.view_is none))

pub returns-in_default-clause-sound : goal.returns-in_default-clause-sound
returns-in_default-clause-sound g c = subst (IsSoundWorld g.K.Keyer.pseudokey_of) c.self.view_is c.self.invariant.0.sound

pub returns-in_default-place_of-clause-sound : goal.returns-in_default-place_of-clause-sound
returns-in_default-place_of-clause-sound g c = subst (IsSoundWorld g.K.Keyer.pseudokey_of) c.self.view_is c.self.invariant.0.sound
