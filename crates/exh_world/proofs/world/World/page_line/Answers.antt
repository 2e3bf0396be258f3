use Rattle.std.proofs.Common.{◌≡◌, None, slice_get, inl, refl, subst, ◌∙◌, ap, sym, List, length, arith}
use Rattle.std.specs.Prelude.{IfErr, slice_set}
use Rattle.std.proofs.lemmas.Option.{slice_get_past, slice_get_read}
use Rattle.std.proofs.lemmas.Result.{IfOk-from_err}
use Rattle.exh_page.specs.declared.page_head.PageHead.{PageHead}
use Rattle.exh_ward.specs.WardFault.{PageRefused}
use Rattle.exh_ward.specs.WardState.{WardState}
use Rattle.exh_prefix.specs.PrefixListLemmas.{set_same}
use Rattle.exh_world.specs.WorldKept.{IsKeptWorld}
use Rattle.exh_world.specs.Step.{IsChangeRefused, LeavesRefused}
use Rattle.exh_world.specs.World.{WorldState}
use Rattle.exh_world.proofs.InsideWorld.{world_of}
use Rattle.exh_world.proofs.WardChanges.{after, found_now, same_kept, leaves_refused, of_refusal, change_refused}
use Rattle.exh_world.proofs.world.World.page_line.Given.{Over}
use Rattle.exh_world.proofs.world.World.page_line.Goals as goal

pub invariant_of-self-in_err-head : goal.invariant_of-self-in_err-head
invariant_of-self-in_err-head g c =
    (same_kept c.self.view_is c.self.invariant.0 c.in-Some.ensures.item.3.0 c.in-Some.ensures.value c.head.new.self c.in_err-head.ensures.err, c.self.invariant.1)

pub returns-in_err-head-clause-refused : goal.returns-in_err-head-clause-refused
returns-in_err-head-clause-refused g c =
    let old = c.args.self.now in
    let Refuses = λ (state : WardState g.row.K.Denot). PageRefused state.pages in
    let Reason = IsChangeRefused old Refuses c.args.ward c.args.page in
    let fault = c.in_err-head.field-0.0 in
    let fits = c.in-Some.ensures.item.3.0 in
    let lent = c.in-Some.ensures.value in
    let left = c.head.new.self in
    let new = after c.self.view_is c.self.invariant.0 fits lent left in
    of_refusal (λ result. IfErr result (λ fault. LeavesRefused (λ number. number ≡ c.args.ward) Reason old fault new)) c.from_residual.result fault c.from_residual.ensures
    (leaves_refused c.self.view_is c.self.invariant.0 fits lent left c.in_err-head.ensures.err (λ number. number ≡ c.args.ward) Reason refl PageHead fault c.in_err-head.ensures.failures
    (λ other. inl (change_refused c.self.view_is c.self.invariant.0 fits lent left Refuses c.args.page fault c.in_err-head.ensures.refused other)))

pub returns-in_err-head-clause-sound : goal.returns-in_err-head-clause-sound
returns-in_err-head-clause-sound g c = (invariant_of-self-in_err-head g c).0.sound

pub returns-clause-head : goal.returns-clause-head
returns-clause-head g c =
    let head = c.in_ok-head.ensures.head in
    (c.in-Some.state.now, found_now c.self.view_is c.self.invariant.0 c.in-Some.ensures.item.3.0 c.in-Some.ensures.value c.head.new.self, head.0, head.1, head.2)

pub returns-in_default-clause-refused : goal.returns-in_default-clause-refused
returns-in_default-clause-refused g c =
    inl (c.self.view_is, inl (subst (λ (w : WorldState g.row.K.Denot). slice_get w.wards c.args.ward ≡ None) c.self.view_is (slice_get_past c.self.inside.wards.items c.args.ward c.in_default.ensures.item.3)))

pub returns-in_default-clause-sound : goal.returns-in_default-clause-sound
returns-in_default-clause-sound g c = c.self.invariant.0.sound

pub returns-in_default-clause-head : goal.returns-in_default-clause-head
returns-in_default-clause-head g c = tt

pub returns-in_default-clause-ok : goal.returns-in_default-clause-ok
returns-in_default-clause-ok g c = tt

pub returns-in_err-head-clause-head : goal.returns-in_err-head-clause-head
returns-in_err-head-clause-head g c = IfOk-from_err c.from_residual.result _ c.from_residual.ensures.0

pub returns-in_err-head-clause-ok : goal.returns-in_err-head-clause-ok
returns-in_err-head-clause-ok g c = IfOk-from_err c.from_residual.result _ c.from_residual.ensures.0

-- the world as a call leaves it that leaves the ward as it was
unchanged : (g : Over) (c : goal.In_ok-head g) → after c.self.view_is c.self.invariant.0 c.in-Some.ensures.item.3.0 c.in-Some.ensures.value c.head.new.self ≡ world_of c.self.inside
unchanged g c =
    let wards = c.self.inside.wards.items in
    let there = slice_get_read wards (length wards) c.args.ward c.in-Some.state.now refl c.in-Some.ensures.item.3.0 c.in-Some.ensures.value in
    let with_wards : List (WardState g.row.K.Denot) → WorldState g.row.K.Denot = λ wards. record (world_of c.self.inside) { wards = wards } in
    ap with_wards (ap (slice_set wards c.args.ward) c.in_ok-head.ensures.ok ∙ set_same wards c.args.ward c.in-Some.state.now there)

pub invariant_of-self-2 : goal.invariant_of-self-2
invariant_of-self-2 g c = (subst (IsKeptWorld g.K.Keyer.pseudokey_of) (sym (unchanged g c)) c.self.invariant.0, c.self.invariant.1)

pub returns-clause-ok : goal.returns-clause-ok
returns-clause-ok g c = unchanged g c ∙ c.self.view_is

pub returns-clause-refused : goal.returns-clause-refused
returns-clause-refused g c = tt

pub returns-clause-sound : goal.returns-clause-sound
returns-clause-sound g c = (invariant_of-self-2 g c).0.sound

pub overflow_cast-ward : goal.overflow_cast-ward
overflow_cast-ward g c = omega (arith, c.ranges.ward)
