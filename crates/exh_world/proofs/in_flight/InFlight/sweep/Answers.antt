use Rattle.std.proofs.Common.{◌≡◌, filter, rules, sym, ap, ◌∙◌, subst, nat_eq}
use Rattle.std.specs.HashMap.{get}
use Rattle.indexmap.proofs.CallerLemmas.{filter-RetainsPairs}
use Rattle.exh_world.specs.Slots.{standing_in, AreKept}
use Rattle.exh_world.proofs.SlotLemmas.{Slots, is_standing, standing-swept, kept_swept}
use Rattle.exh_world.proofs.in_flight.InFlight.sweep.Goals as goal

pub invariant_of-self : goal.invariant_of-self
invariant_of-self c =
    let i = c.self.inside in
    let P : Slots → Type 0 = λ slots. AreKept slots (get nat_eq i.places) i.begun in
    let kept : c.retain.new.self.entries ≡ filter is_standing i.slots.entries = filter-RetainsPairs _ is_standing _ (λ k v b w g call. search rules) _ _ c.retain.ensures.filtered in
    subst P (sym kept) (kept_swept i.slots.entries (get nat_eq i.places) i.begun c.self.invariant)

pub returns-then-len : goal.returns-then-len
returns-then-len c =
    let i = c.self.inside in
    let kept : c.retain.new.self.entries ≡ filter is_standing i.slots.entries = filter-RetainsPairs _ is_standing _ (λ k v b w g call. search rules) _ _ c.retain.ensures.filtered in
    ap standing_in kept ∙ standing-swept i.slots.entries ∙ c.self.view_is
