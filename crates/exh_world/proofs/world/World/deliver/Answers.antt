use Rattle.std.specs.Prelude.{slice_get, slice_set}
use Rattle.std.proofs.lemmas.Option.{slice_get_read, slice_get_past}
use Rattle.exh_ward.specs.WardState.{WardState}
use Rattle.std.proofs.Common.{◌≡◌, ◌≤◌, ◌<◌, ◌^◌, length, None, Some, IsSome, inl, refl, List, sym, ap, ◌∙◌, subst, Ok}
use Rattle.exh_array.specs.Copies.{CopiesState}
use Rattle.exh_table.specs.Table.{table_with}
use Rattle.exh_world.specs.WorldKept.{IsKeptWorld, HaveIndexesInTurn}
use Rattle.exh_world.specs.Sound.{IsSoundWorld}
use Rattle.exh_world.specs.Step.{HasTaken}
use Rattle.exh_world.specs.World.{WorldState, numbered}
use Rattle.exh_walk.specs.declared.event.Event.TheVariants.{Deliver}
use Rattle.exh_walk.specs.declared.outcome.Outcome.TheVariants.{Taken}
use Rattle.exh_world.proofs.CopySteps.{all_above, kept_after, is_there, placed_there, has_taken, refused_same, indexes_in_turn, no_notice}
use Rattle.exh_world.proofs.InsideWorld.{with_copies}
use Rattle.exh_world.proofs.world.World.deliver.Given as Given
use Rattle.exh_world.proofs.world.World.deliver.Goals as goal

pub take-requires : goal.take-requires
take-requires g c = (c.in-Some.ensures.some c.self.inside.copies.copies (sym c.count.ensures)).1

pub notice_of-requires : goal.notice_of-requires
notice_of-requires g c =
    let all = c.notices_after.ensures.notices ∙ all_above g.K.Keyer.pseudokey_of c.in-Some-get.teller.now c.notices_after.ensures.sound in
    subst HaveIndexesInTurn (sym all) (indexes_in_turn g.K.Keyer.pseudokey_of c.in-Some-get.teller.now c.notices_after.ensures.sound)

pub returns-in_default-notice_of-clause-step : goal.returns-in_default-notice_of-clause-step
returns-in_default-notice_of-clause-step g c =
    let lookup = c.in-Some-get.ensures.lookup in
    let there = subst (λ (wards : List (WardState g.row.K.Denot)). slice_get wards c.args.ward ≡ Some c.in-Some-get.teller.now) c.deref.ensures.value (slice_get_read c.deref.result.now _ c.args.ward c.in-Some-get.teller.now refl lookup.3.0 lookup.1) in
    let placed = c.in-Some.ensures.some c.self.inside.copies.copies (sym c.count.ensures) in
    let own = placed_there c.self.inside.copies.copies c.args.copy c.in-Some.at placed in
    no_notice c.self.view_is c.self.invariant.0 c.args.copy c.in-Some.at placed own.0 own.1 c.args.ward c.args.index c.in-Some-get.teller.now there c.notices_after.result.now (c.notices_after.ensures.notices ∙ all_above g.K.Keyer.pseudokey_of c.in-Some-get.teller.now c.notices_after.ensures.sound) c.in_default-notice_of.ensures.none

pub returns-in_err-take-clause-step : goal.returns-in_err-take-clause-step
returns-in_err-take-clause-step g c =
    refused_same c.self.view_is c.self.invariant.0 (Deliver c.args.copy c.args.ward c.args.index) c.from_residual.result _ (ap (with_copies c.self.inside) c.in_err-take.ensures.err) c.from_residual.ensures

-- the copies once the notice was taken
taken : (g : Given.Over) (c : goal.In_ok-take g)
    → c.take.new.self ≡ record c.self.inside.copies { copies = slice_set c.self.inside.copies.copies c.in-Some.at (table_with (placed_there c.self.inside.copies.copies c.args.copy c.in-Some.at (c.in-Some.ensures.some c.self.inside.copies.copies (sym c.count.ensures))).0 c.in-Some-notice_of.notice) }
taken g c =
    let own = placed_there c.self.inside.copies.copies c.args.copy c.in-Some.at (c.in-Some.ensures.some c.self.inside.copies.copies (sym c.count.ensures)) in
    c.in_ok-take.ensures.ok own.0 own.1

pub returns-clause-step : goal.returns-clause-step
returns-clause-step g c =
    let placed = c.in-Some.ensures.some c.self.inside.copies.copies (sym c.count.ensures) in
    let own = placed_there c.self.inside.copies.copies c.args.copy c.in-Some.at placed in
    let lookup = c.in-Some-get.ensures.lookup in
    let there = subst (λ (wards : List (WardState g.row.K.Denot)). slice_get wards c.args.ward ≡ Some c.in-Some-get.teller.now) c.deref.ensures.value (slice_get_read c.deref.result.now _ c.args.ward c.in-Some-get.teller.now refl lookup.3.0 lookup.1) in
    subst (λ (copies : CopiesState). HasTaken c.args.self.now c.args.copy c.args.ward c.args.index c.in-Some-notice_of.notice (with_copies c.self.inside copies)) (sym (taken g c))
    (has_taken c.self.view_is c.self.invariant.0 c.args.copy c.in-Some.at placed own.0 own.1 c.args.ward c.args.index c.in-Some-get.teller.now there c.notices_after.result.now (c.notices_after.ensures.notices ∙ all_above g.K.Keyer.pseudokey_of c.in-Some-get.teller.now c.notices_after.ensures.sound) c.in-Some-notice_of.notice (table_with own.0 c.in-Some-notice_of.notice) c.in-Some-notice_of.ensures.some.0 c.in-Some-notice_of.ensures.some.1 refl)

pub invariant_of-self-2 : goal.invariant_of-self-2
invariant_of-self-2 g c = (
  kept_after c.self.view_is c.self.invariant.0 c.steps_keep_worlds_sound.ensures (Deliver c.args.copy c.args.ward c.args.index) (Ok (Taken c.in-Some-notice_of.notice)) _ (returns-clause-step g c) refl refl
      (subst (λ (copies : CopiesState). length copies.sent < 2 ^ 32) (sym (taken g c)) c.self.invariant.0.few_sent),
  ap (λ (copies : CopiesState). copies.ward_bits) (taken g c) ∙ c.self.invariant.1,
)

pub returns-clause-sound : goal.returns-clause-sound
returns-clause-sound g c = (invariant_of-self-2 g c).0.sound

pub invariant_of-self : goal.invariant_of-self
invariant_of-self g c = (
  subst (IsKeptWorld g.K.Keyer.pseudokey_of) (sym (ap (with_copies c.self.inside) c.in_err-take.ensures.err)) c.self.invariant.0,
  ap (λ (copies : CopiesState). copies.ward_bits) c.in_err-take.ensures.err ∙ c.self.invariant.1,
)

pub returns-in_err-take-clause-sound : goal.returns-in_err-take-clause-sound
returns-in_err-take-clause-sound g c = (invariant_of-self g c).0.sound

pub returns-in_default-get-clause-step : goal.returns-in_default-get-clause-step
returns-in_default-get-clause-step g c =
    let placed = c.in-Some.ensures.some c.self.inside.copies.copies (sym c.count.ensures) in
    let past = subst (λ (wards : List (WardState g.row.K.Denot)). length wards ≤ c.args.ward) c.deref.ensures.value c.in_default-get.ensures.lookup.3 in inl (
      refl {a = c.args.self.now},
      inl (
        subst (λ (w : WorldState g.row.K.Denot). IsSome (numbered w.copies c.args.copy)) c.self.view_is (is_there c.self.inside.copies.copies c.args.copy c.in-Some.at placed),
        subst (λ (w : WorldState g.row.K.Denot). slice_get w.wards c.args.ward ≡ None) c.self.view_is (slice_get_past c.self.inside.wards.items c.args.ward past),
      ),
    )

pub returns-in_default-clause-step : goal.returns-in_default-clause-step
returns-in_default-clause-step g c =
    let none = c.in_default.ensures.none c.self.inside.copies.copies (sym c.count.ensures) in
    inl (refl {a = c.args.self.now}, inl (subst (λ (w : WorldState g.row.K.Denot). numbered w.copies c.args.copy ≡ None) c.self.view_is none))

pub returns-in_default-clause-sound : goal.returns-in_default-clause-sound
returns-in_default-clause-sound g c = subst (IsSoundWorld g.K.Keyer.pseudokey_of) c.self.view_is c.self.invariant.0.sound

pub returns-in_default-get-clause-sound : goal.returns-in_default-get-clause-sound
returns-in_default-get-clause-sound g c = subst (IsSoundWorld g.K.Keyer.pseudokey_of) c.self.view_is c.self.invariant.0.sound

pub returns-in_default-notice_of-clause-sound : goal.returns-in_default-notice_of-clause-sound
returns-in_default-notice_of-clause-sound g c = subst (IsSoundWorld g.K.Keyer.pseudokey_of) c.self.view_is c.self.invariant.0.sound
