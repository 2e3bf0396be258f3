use Rattle.std.proofs.Common.{◌≡◌, ℕ, ◌-◌, ◌^◌, ◌<◌, ◌≤◌, length, slice_get, None, Some, inl, inr, refl, sym, ap, ◌∙◌, subst}
use Rattle.std.specs.Prelude.{is_some, IsSome}
use Rattle.std.specs.Option.{option_copied}
use Rattle.exh_table.specs.TableWalk.{walk_of}
use Rattle.exh_prefix.specs.Leading.{ward_of}
use Rattle.exh_calls.specs.Call.{key_of}
use Rattle.exh_ward.specs.WardState.{WardState}
use Rattle.exh_ward.specs.declared.ward_fault.WardFault.TheVariants.{Memory}
use Rattle.exh_world.specs.InFlight.{request_named}
use Rattle.exh_world.specs.WorldKept.{IsKeptWorld}
use Rattle.exh_world.specs.Sound.{IsSoundWorld}
use Rattle.exh_world.specs.Step.{HasBegun, IsRefused, ReachesInto, Step}
use Rattle.exh_world.specs.World.{WorldState, changes_in, numbered}
use Rattle.exh_walk.specs.declared.event.Event.TheVariants.{Begin}
use Rattle.exh_world.proofs.BeginSteps.{none_there, some_there, with_requests, at_within, found_at, noticed_within, had_few, changes_are, no_page_missing, same_ward, begun, begun_kept}
use Rattle.exh_world.proofs.InsideWorld.{with_ward, within_len, world_of}
use Rattle.exh_world.proofs.WardChanges as changed
use Rattle.exh_world.proofs.WardChanges.{same_kept, leaves_refused, memory_of, of_refusal}
use Rattle.exh_world.proofs.world.World.begin.Given.{Over}
use Rattle.exh_world.proofs.world.World.begin.Goals.{In_ok-begin}
use Rattle.exh_world.proofs.world.World.begin.Goals as goal

abbrev HasBegunHere : (g : Over) → In_ok-begin g → WorldState g.row.K.Denot → Type 0
HasBegunHere g c old = HasBegun g.K.Keyer.pseudokey_of old c.args.name c.args.client c.args.copy c.args.call.now c.ward_number-ward.result c.walk-page.result (with_ward c.self.inside c.from.result c.distance.new.self c.begin.new.self)

begun_here : (g : Over) (c : In_ok-begin g) → HasBegunHere g c (world_of c.self.inside)
begun_here g c =
    let i = c.self.inside in
    let pseudokey_of = g.K.Keyer.pseudokey_of in
    let free : request_named c.args.name i.in_flight ≡ None = sym c.get.ensures ∙ ap option_copied (none_there c.get.result (sym c.is_some.ensures ∙ c.if-is_some.false)) in
    let there : numbered i.copies.copies c.args.copy ≡ Some c.copy.result.now.table = (c.in-Some.ensures.some i.copies.copies (sym c.count.ensures)).2 ∙ c.copy.ensures.copy in
    let bytes = c.as_bytes.ensures.bytes ∙ c.key.ensures in
    let ward_bits = c.copy.ensures.array.bits ∙ c.self.invariant.1 in
    let page = c.walk-page.ensures.page ∙ ap (λ bits. (walk_of c.copy.result.now.table bits c.pseudo-pseudokey.result).page) ward_bits in
    let kept = c.self.invariant.0 in
    let state_is = c.index_mut-state.ensures.value in
    let at_is = c.from.ensures ∙ c.ward_number-ward.ensures in
    let same = c.in_ok-distance.ensures.ok in
    let found = found_at pseudokey_of i kept c.pseudo-pseudokey.result c.from.result at_is _ state_is in
    let place_is = c.from-2.ensures ∙ sym c.from.ensures in
    let changes = c.changes_since-changes.ensures.count ∙ ap (λ (w : WardState g.row.K.Denot). length w.notices - c.index.result.now) same
    ∙ changes_are pseudokey_of i kept c.pseudo-pseudokey.result c.from.result at_is _ state_is c.from-2.result place_is c.index.result.now c.index.ensures
    ∙ ap (λ n. length (changes_in (world_of i) n)) c.from.ensures in
    subst (HasBegun pseudokey_of (world_of i) c.args.name c.args.client c.args.copy c.args.call.now c.ward_number-ward.result c.walk-page.result) (sym (same_ward pseudokey_of i kept c.pseudo-pseudokey.result c.from.result at_is _ state_is c.distance.new.self same c.begin.new.self))
    (begun pseudokey_of i c.args.name c.args.client c.args.copy c.args.call.now free c.copy.result.now.table there c.as_bytes.result.now bytes c.pseudo-pseudokey.result c.ward_number-ward.result c.walk-page.result
    c.pseudo-pseudokey.ensures c.ward_number-ward.ensures page
    _ (subst (λ n. slice_get i.wards.items n ≡ Some c.index_mut-state.result.now) c.from.ensures found) c.in_ok-distance.distance c.in_ok-distance.ensures.distance c.changes_since-changes.result changes c.begin.new.self c.in_ok-begin.ensures.ok)

pub invariant_of-self-2 : goal.invariant_of-self-2
invariant_of-self-2 g c =
    (begun_kept g.K.Keyer.pseudokey_of c.self.inside c.args.name c.args.client c.args.copy c.args.call.now c.ward_number-ward.result c.walk-page.result (with_ward c.self.inside c.from.result c.distance.new.self c.begin.new.self) refl refl c.self.invariant.0 (begun_here g c), c.self.invariant.1)

pub returns-clause-step : goal.returns-clause-step
returns-clause-step g c = subst (HasBegunHere g c) c.self.view_is (begun_here g c)

pub returns-clause-sound : goal.returns-clause-sound
returns-clause-sound g c = (invariant_of-self-2 g c).0.sound

pub begin-requires : goal.begin-requires
begin-requires g c = sym c.get.ensures ∙ ap option_copied (none_there c.get.result (sym c.is_some.ensures ∙ c.if-is_some.false))

pub returns-then-is_some-clause-step : goal.returns-then-is_some-clause-step
returns-then-is_some-clause-step g c =
    let taken = subst IsSome c.get.ensures (some_there c.get.result (sym c.is_some.ensures ∙ c.if-is_some.true)) in
    inl (refl {a = c.args.self.now}, inl (subst (λ (w : WorldState g.row.K.Denot). IsSome (request_named c.args.name w.in_flight)) c.self.view_is taken))

pub returns-in_default-clause-step : goal.returns-in_default-clause-step
returns-in_default-clause-step g c =
    let free : request_named c.args.name c.self.inside.in_flight ≡ None = sym c.get.ensures ∙ ap option_copied (none_there c.get.result (sym c.is_some.ensures ∙ c.if-is_some.false)) in
    let none = c.in_default.ensures.none c.self.inside.copies.copies (sym c.count.ensures) in inl (
      refl {a = c.args.self.now},
      inl (
        subst (λ (w : WorldState g.row.K.Denot). request_named c.args.name w.in_flight ≡ None) c.self.view_is free,
        subst (λ (w : WorldState g.row.K.Denot). numbered w.copies c.args.copy ≡ None) c.self.view_is none,
      ),
    )

pub index_mut-state-requires : goal.index_mut-state-requires
index_mut-state-requires g c =
    let i = c.self.inside in
    within_len _ _ _ i.wards.ok.0 (at_within g.K.Keyer.pseudokey_of i c.self.invariant.0 c.pseudo-pseudokey.result c.from.result (c.from.ensures ∙ c.ward_number-ward.ensures))

pub index-requires : goal.index-requires
index-requires g c =
    let i = c.self.inside in
    within_len _ _ _ i.noticed.ok.0
    (noticed_within g.K.Keyer.pseudokey_of i c.self.invariant.0 c.pseudo-pseudokey.result c.from.result (c.from.ensures ∙ c.ward_number-ward.ensures) _ c.index_mut-state.ensures.value c.from-2.result (c.from-2.ensures ∙ sym c.from.ensures))

pub changes_since-changes-requires : goal.changes_since-changes-requires
changes_since-changes-requires g c =
    subst (λ (w : WardState g.row.K.Denot). c.index.result.now ≤ length w.notices) (sym c.in_ok-distance.ensures.ok)
    (had_few g.K.Keyer.pseudokey_of c.self.inside c.self.invariant.0 c.pseudo-pseudokey.result c.from.result (c.from.ensures ∙ c.ward_number-ward.ensures) _ c.index_mut-state.ensures.value c.from-2.result (c.from-2.ensures ∙ sym c.from.ensures)
    c.index.result.now c.index.ensures)

pub invariant_of-self : goal.invariant_of-self
invariant_of-self g c =
    let fits = at_within g.K.Keyer.pseudokey_of c.self.inside c.self.invariant.0 c.pseudo-pseudokey.result c.from.result (c.from.ensures ∙ c.ward_number-ward.ensures) in
    (same_kept c.self.view_is c.self.invariant.0 fits c.index_mut-state.ensures.value c.distance.new.self c.in_err-distance.ensures.err, c.self.invariant.1)

pub returns-in_err-distance-clause-step : goal.returns-in_err-distance-clause-step
returns-in_err-distance-clause-step g c =
    let pseudokey_of = g.K.Keyer.pseudokey_of in
    let i = c.self.inside in
    let kept = c.self.invariant.0 in
    let old = c.args.self.now in
    let event = Begin c.args.name c.args.client c.args.copy c.args.call.now in
    let fault = c.in_err-distance.field-0.0 in
    let at_is = c.from.ensures ∙ c.ward_number-ward.ensures in
    let fits = at_within pseudokey_of i kept c.pseudo-pseudokey.result c.from.result at_is in
    let lent = c.index_mut-state.ensures.value in
    let new = changed.after c.self.view_is kept fits lent c.distance.new.self in
    let free : request_named c.args.name i.in_flight ≡ None = sym c.get.ensures ∙ ap option_copied (none_there c.get.result (sym c.is_some.ensures ∙ c.if-is_some.false)) in
    let there : numbered i.copies.copies c.args.copy ≡ Some c.copy.result.now.table = (c.in-Some.ensures.some i.copies.copies (sym c.count.ensures)).2 ∙ c.copy.ensures.copy in
    let ward_bits = c.copy.ensures.array.bits ∙ c.self.invariant.1 in
    let page = c.walk-page.ensures.page ∙ ap (λ bits. (walk_of c.copy.result.now.table bits c.pseudo-pseudokey.result).page) ward_bits in
    let hashed = c.pseudo-pseudokey.ensures ∙ ap (pseudokey_of i.keyer) (c.as_bytes.ensures.bytes ∙ c.key.ensures) in
    let small = subst (λ k. k < 2 ^ 64) (sym hashed) (kept.sound.words (key_of c.args.call.now)) in
    let reaches : ReachesInto pseudokey_of old event c.from.result =
    subst (λ (w : WorldState g.row.K.Denot). ReachesInto pseudokey_of w event c.from.result) c.self.view_is (free, ap is_some there, at_is ∙ ap (ward_of i.ward_bits) hashed) in
    of_refusal (λ result. Step pseudokey_of old event result new) c.from_residual.result fault c.from_residual.ensures
    (leaves_refused c.self.view_is kept fits lent c.distance.new.self c.in_err-distance.ensures.err (ReachesInto pseudokey_of old event) (IsRefused old event) reaches ℕ fault c.in_err-distance.ensures.failures
    (λ other. inr (memory_of fault (no_page_missing pseudokey_of i kept c.pseudo-pseudokey.result c.from.result at_is _ lent c.copy.result.now.table (kept.sound.copies c.args.copy c.copy.result.now.table there) small c.walk-page.result page fault c.in_err-distance.ensures.refused) other)))

pub returns-in_err-distance-clause-sound : goal.returns-in_err-distance-clause-sound
returns-in_err-distance-clause-sound g c = (invariant_of-self g c).0.sound

-- the world where memory for the request was refused
unchanged : (g : Over) (c : goal.After-from_residual-in_err-begin g) → with_ward c.self.inside c.from.result c.distance.new.self c.begin.new.self ≡ world_of c.self.inside
unchanged g c =
    let i = c.self.inside in
    same_ward g.K.Keyer.pseudokey_of i c.self.invariant.0 c.pseudo-pseudokey.result c.from.result (c.from.ensures ∙ c.ward_number-ward.ensures) _ c.index_mut-state.ensures.value c.distance.new.self c.in_ok-distance.ensures.ok c.begin.new.self
    ∙ ap (with_requests i) c.in_err-begin.ensures.err

pub returns-in_err-begin-clause-step : goal.returns-in_err-begin-clause-step
returns-in_err-begin-clause-step g c =
    let i = c.self.inside in
    let event = Begin c.args.name c.args.client c.args.copy c.args.call.now in
    let new = with_ward i c.from.result c.distance.new.self c.begin.new.self in
    of_refusal (λ result. Step g.K.Keyer.pseudokey_of c.args.self.now event result new) c.from_residual-in_err-begin.result Memory c.from_residual-in_err-begin.ensures (inl (unchanged g c ∙ c.self.view_is, inr refl))

pub invariant_of-self-in_err-begin : goal.invariant_of-self-in_err-begin
invariant_of-self-in_err-begin g c = (subst (IsKeptWorld g.K.Keyer.pseudokey_of) (sym (unchanged g c)) c.self.invariant.0, c.self.invariant.1)

pub copy-requires : goal.copy-requires
copy-requires g c = (c.in-Some.ensures.some c.self.inside.copies.copies (sym c.count.ensures)).1

pub returns-then-is_some-clause-sound : goal.returns-then-is_some-clause-sound
returns-then-is_some-clause-sound g c = subst (IsSoundWorld g.K.Keyer.pseudokey_of) c.self.view_is c.self.invariant.0.sound

pub returns-in_default-clause-sound : goal.returns-in_default-clause-sound
returns-in_default-clause-sound g c = subst (IsSoundWorld g.K.Keyer.pseudokey_of) c.self.view_is c.self.invariant.0.sound

pub returns-in_err-begin-clause-sound : goal.returns-in_err-begin-clause-sound
returns-in_err-begin-clause-sound g c = (invariant_of-self-in_err-begin g c).0.sound

pub ward_number-ward-requires : goal.ward_number-ward-requires
ward_number-ward-requires g c = c.self.invariant.0.few_wards
