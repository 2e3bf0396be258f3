use Rattle.std.proofs.Common.{◌+◌, refl, sym, ap, ◌∙◌, subst, arith, nat_eq}
use Rattle.std.specs.HashMap.{get}
use Rattle.std.specs.Option.{option_copied, option_copied_mut, option_map_or}
use Rattle.indexmap.specs.IndexMap.{insert_entry}
use Rattle.exh_world.specs.InFlight.{request_named, moved_to}
use Rattle.exh_world.specs.Slots.{standing_in, AreKept}
use Rattle.exh_world.specs.declared.request.Request.{Request}
use Rattle.exh_world.proofs.SlotLemmas.{Slots, none_named, no_slot, found_at, moved_at, kept_written, its_name, still_stands}
use Rattle.exh_world.proofs.in_flight.InFlight.move_to.Goals as goal

pub returns-in_default : goal.returns-in_default
returns-in_default c =
    let i = c.self.inside in
    let requests = c.args.self.now in
    let none = sym (ap (request_named c.args.name) c.self.view_is) ∙ none_named i.slots.entries _ i.begun c.self.invariant c.args.name (sym c.get.ensures.value ∙ ap option_copied c.in_default.is) in
    sym (ap (λ found. option_map_or (λ (request : Request). insert_entry nat_eq requests c.args.name (record request { page = c.args.page; moves = request.moves + 1 })) found requests) none)

pub returns-in_default-get_mut : goal.returns-in_default-get_mut
returns-in_default-get_mut c =
    let i = c.self.inside in
    absurd (no_slot i.slots.entries _ i.begun c.self.invariant c.args.name c.in-Some.place.now (sym c.get.ensures.value ∙ ap option_copied c.in-Some.is) (sym c.get_mut.ensures.value ∙ ap option_copied_mut c.in_default-get_mut.is))

pub overflow_add-slot : goal.overflow_add-slot
overflow_add-slot c =
    let i = c.self.inside in
    let slot = c.in-Some-get_mut.slot.now in
    let there = sym c.get.ensures.value ∙ ap option_copied c.in-Some.is in
    let is = sym c.get_mut.ensures.value ∙ ap option_copied_mut c.in-Some-get_mut.is in
    let found = sym (ap (request_named c.args.name) c.self.view_is) ∙ found_at i.slots.entries _ i.begun c.self.invariant c.args.name c.in-Some.place.now there slot is in
    omega (arith, c.requires.room slot.request found)

pub invariant_of-self-2 : goal.invariant_of-self-2
invariant_of-self-2 c =
    let i = c.self.inside in
    let slot = c.in-Some-get_mut.slot.now in
    let there = sym c.get.ensures.value ∙ ap option_copied c.in-Some.is in
    let is = sym c.get_mut.ensures.value ∙ ap option_copied_mut c.in-Some-get_mut.is in
    let new = record slot { request = record slot.request { page = c.args.page; moves = slot.request.moves + 1 } } in
    let P : Slots → Type 0 = λ slots. AreKept slots (get nat_eq i.places) i.begun in
    subst P (sym (c.get_mut.follows.holds new).0)
    (kept_written i.slots.entries (get nat_eq i.places) i.begun c.self.invariant c.args.name c.in-Some.place.now there slot is new
    (still_stands i.slots.entries (get nat_eq i.places) i.begun c.self.invariant c.args.name c.in-Some.place.now there slot is)
    (its_name i.slots.entries (get nat_eq i.places) i.begun c.self.invariant c.args.name c.in-Some.place.now there slot is))

pub returns : goal.returns
returns c =
    let i = c.self.inside in
    let slot = c.in-Some-get_mut.slot.now in
    let there = sym c.get.ensures.value ∙ ap option_copied c.in-Some.is in
    let is = sym c.get_mut.ensures.value ∙ ap option_copied_mut c.in-Some-get_mut.is in
    let new = record slot { request = record slot.request { page = c.args.page; moves = slot.request.moves + 1 } } in
    ap standing_in (c.get_mut.follows.holds new).0
    ∙ moved_at i.slots.entries (get nat_eq i.places) i.begun c.self.invariant c.args.name c.in-Some.place.now there slot is c.args.page new refl ∙ ap (moved_to c.args.name c.args.page) c.self.view_is
