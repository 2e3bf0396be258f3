use Rattle.std.proofs.Common.{◌≡◌, ℕ, ◌+◌, ◌<◌, ◌^◌, ◌++◌, ◌∷◌, [], false, cond, Result, Ok, Err, Some, IsOk, OnOk, refl, sym, ap, ◌∙◌, subst, nat_eq, arith}
use Rattle.std.specs.HashMap.{get}
use Rattle.indexmap.proofs.CallerLemmas.{insert_entry-new}
use Rattle.exh_prefix.specs.PrefixListLemmas.{value_of_some}
use Rattle.exh_world.specs.InFlight.{Requests, request_named}
use Rattle.exh_world.specs.Slots.{standing_in, AreKept}
use Rattle.exh_world.specs.declared.slot.Slot.{Slot}
use Rattle.exh_world.proofs.SlotLemmas.{Slots, standing-push, not_placed, not_begun, kept_begun}
use Rattle.exh_world.proofs.in_flight.InFlight.begin.Goals as goal

-- what holds where a call succeeds, which does
where_ok : {A E : Type 0} (result : Result A E) (P : Type 0) → IsOk result → OnOk result P → P
where_ok (Ok made) P ok holds = holds
where_ok (Err fault) P ok holds = cc

pub invariant_of-self-2 : goal.invariant_of-self-2
invariant_of-self-2 c =
    let i = c.self.inside in
    let name = c.args.name in
    let slot : Slot = record { name = name; request = c.args.request; is_answered = false } in
    let none = not_placed i.slots.entries (get nat_eq i.places) i.begun c.self.invariant name (ap (request_named name) c.self.view_is ∙ c.requires) in
    let room = c.in_ok-reserve.ensures.ok in
    let put = where_ok c.insert-2.result _ (c.insert-2.ensures.succeeds (omega (arith, room))) c.insert-2.ensures.updates in
    let more : c.in_ok-begun.begun ≡ i.begun + 1 = value_of_some _ (i.begun + 1 < 2 ^ 64) (i.begun + 1) _ c.checked_add.ensures c.in_ok-begun.ensures.ok_part in
    let added = c.in_ok-insert.ensures.entries ∙ insert_entry-new nat_eq i.slots i.begun slot (not_begun i.slots.entries (get nat_eq i.places) i.begun c.self.invariant) in
    let P : Slots → Type 0 = λ slots. AreKept slots (get nat_eq c.insert-2.new.self) (i.begun + 1) in
    let Q : ℕ → Type 0 = λ begun. AreKept c.insert.new.self.entries (get nat_eq c.insert-2.new.self) begun in
    subst Q (sym more) (subst P (sym added)
    (kept_begun i.slots.entries (get nat_eq i.places) i.begun c.self.invariant name slot (get nat_eq c.insert-2.new.self) none refl refl
    (λ q. put.0 q ∙ ap (cond (nat_eq name q) (Some i.begun)) (c.reserve.ensures.entries.2 q))))

pub returns-clause-ok : goal.returns-clause-ok
returns-clause-ok c =
    let i = c.self.inside in
    let slot : Slot = record { name = c.args.name; request = c.args.request; is_answered = false } in
    ap standing_in (c.in_ok-insert.ensures.entries ∙ insert_entry-new nat_eq i.slots i.begun slot (not_begun i.slots.entries (get nat_eq i.places) i.begun c.self.invariant))
    ∙ standing-push i.slots.entries i.begun slot refl ∙ ap (λ (requests : Requests). requests ++ (c.args.name, c.args.request) ∷ []) c.self.view_is
