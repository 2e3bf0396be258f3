use Rattle.std.proofs.Common.{true, refl, sym, ap, ◌∙◌, subst, nat_eq}
use Rattle.std.specs.HashMap.{get}
use Rattle.std.specs.Option.{option_copied_mut}
use Rattle.exh_world.specs.InFlight.{without}
use Rattle.exh_world.specs.Slots.{standing_in, AreKept}
use Rattle.exh_world.proofs.SlotLemmas.{Slots, none_named, without-absent, no_slot, marked_at, kept_marked}
use Rattle.exh_world.proofs.in_flight.InFlight.take_out.Goals as goal

pub returns-in_default : goal.returns-in_default
returns-in_default c =
    let i = c.self.inside in
    let none = none_named i.slots.entries (get nat_eq i.places) i.begun c.self.invariant c.args.name (sym c.remove.ensures.value ∙ c.in_default.is) in
    sym (without-absent c.args.name (standing_in i.slots.entries) none) ∙ ap (without c.args.name) c.self.view_is

pub returns-in_default-get_mut : goal.returns-in_default-get_mut
returns-in_default-get_mut c =
    let i = c.self.inside in
    absurd (no_slot i.slots.entries (get nat_eq i.places) i.begun c.self.invariant c.args.name c.in-Some.place (sym c.remove.ensures.value ∙ c.in-Some.is) (sym c.get_mut.ensures.value ∙ ap option_copied_mut c.in_default-get_mut.is))

pub invariant_of-self-in_default-get_mut : goal.invariant_of-self-in_default-get_mut
invariant_of-self-in_default-get_mut c =
    let i = c.self.inside in
    absurd (no_slot i.slots.entries (get nat_eq i.places) i.begun c.self.invariant c.args.name c.in-Some.place (sym c.remove.ensures.value ∙ c.in-Some.is) (sym c.get_mut.ensures.value ∙ ap option_copied_mut c.in_default-get_mut.is))

pub invariant_of-self-2 : goal.invariant_of-self-2
invariant_of-self-2 c =
    let i = c.self.inside in
    let slot = c.in-Some-get_mut.slot.now in
    let there = sym c.remove.ensures.value ∙ c.in-Some.is in
    let is = sym c.get_mut.ensures.value ∙ ap option_copied_mut c.in-Some-get_mut.is in
    let new = record slot { is_answered = true } in
    let P : Slots → Type 0 = λ slots. AreKept slots (get nat_eq c.remove.new.self) i.begun in
    subst P (sym (c.get_mut.follows.holds new).0)
    (kept_marked i.slots.entries (get nat_eq i.places) i.begun c.self.invariant c.args.name c.in-Some.place there slot is (get nat_eq c.remove.new.self) c.remove.ensures.updates.0 new refl c.get_mut.ensures.unique)

pub returns : goal.returns
returns c =
    let i = c.self.inside in
    let slot = c.in-Some-get_mut.slot.now in
    let there = sym c.remove.ensures.value ∙ c.in-Some.is in
    let is = sym c.get_mut.ensures.value ∙ ap option_copied_mut c.in-Some-get_mut.is in
    let new = record slot { is_answered = true } in
    c.sweep.ensures ∙ ap standing_in (c.get_mut.follows.holds new).0
    ∙ marked_at i.slots.entries (get nat_eq i.places) i.begun c.self.invariant c.args.name c.in-Some.place there slot is new refl ∙ ap (without c.args.name) c.self.view_is
