use Rattle.std.proofs.Common.{sym, ap, ◌∙◌}
use Rattle.std.specs.Option.{option_copied}
use Rattle.exh_world.specs.InFlight.{request_named}
use Rattle.exh_world.proofs.SlotLemmas.{none_named, no_slot, found_at}
use Rattle.exh_world.proofs.in_flight.InFlight.get.Goals as goal

pub returns-in_err-place : goal.returns-in_err-place
returns-in_err-place c =
    let i = c.self.inside in
    ap option_copied c.from_residual.ensures ∙ sym (none_named i.slots.entries _ i.begun c.self.invariant c.args.name (sym c.get.ensures.value ∙ ap option_copied c.in_err-place.was)) ∙ ap (request_named c.args.name) c.self.view_is

pub returns-in_err-slot : goal.returns-in_err-slot
returns-in_err-slot c =
    let i = c.self.inside in
    absurd (no_slot i.slots.entries _ i.begun c.self.invariant c.args.name c.in_ok-place.place.now (sym c.get.ensures.value ∙ ap option_copied c.in_ok-place.was) (sym c.get-2.ensures.value ∙ ap option_copied c.in_err-slot.was))

pub returns : goal.returns
returns c =
    let i = c.self.inside in
    sym (found_at i.slots.entries _ i.begun c.self.invariant c.args.name c.in_ok-place.place.now (sym c.get.ensures.value ∙ ap option_copied c.in_ok-place.was) c.in_ok-slot.slot.now (sym c.get-2.ensures.value ∙ ap option_copied c.in_ok-slot.was))
    ∙ ap (request_named c.args.name) c.self.view_is
