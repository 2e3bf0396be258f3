use Rattle.std.proofs.Common.{◌≡◌, List, length, take, drop, refl, sym, ap, ◌∙◌, subst}
use Rattle.exh_keyer.specs.declared.any_keyer.AnyKeyer.{AnyKeyer}
use Rattle.exh_placing.specs.PlacedFile.{lows_of}
use Rattle.exh_ward.specs.WardState.{WardState}
use Rattle.exh_file.specs.Opened.{AreWardsOf, in_file}
use Rattle.exh_file.specs.Placing.{IsWardOrder, ordered_pages}
use Rattle.exh_file.specs.DraftFault.{draft_fault_of}
use Rattle.exh_file.specs.declared.draft_fault.DraftFault.TheVariants.{Page}
use Rattle.exh_file.specs.Saved.{AreSound, HasCountedOf}
use Rattle.exh_file.proofs.Counted.{handed_on, reached}
use Rattle.exh_file.proofs.Left.{put_back}
use Rattle.exh_file.proofs.draft.drafted.Goals as goal

pub placing_in-requires-clause-sound : goal.placing_in-requires-clause-sound
placing_in-requires-clause-sound g c = subst AreSound (sym c.deref_mut.ensures.value) c.requires.sound

pub placing_in-requires-clause-order : goal.placing_in-requires-clause-order
placing_in-requires-clause-order g c = subst (λ (wards : List (WardState AnyKeyer)). IsWardOrder wards c.args.order.items) (sym c.deref_mut.ensures.value) c.requires.order

pub new-requires : goal.new-requires
new-requires g c =
    let vec = c.args.wards in
    let left = c.placing_in.new.wards in
    let same : left ≡ vec.items = c.in_ok-placing.ensures.same ∙ c.deref_mut.ensures.value in
    let whole = put_back vec.len left (drop (length left) vec.items) (vec.ok.0 ∙ ap length (sym same)) ∙ same in
    subst (λ (wards : List (WardState AnyKeyer)). AreWardsOf (in_file c.args.settings wards)) (sym whole) c.requires.wards

pub returns-in-Some-clause-ok : goal.returns-in-Some-clause-ok
returns-in-Some-clause-ok g c =
    let vec = c.args.wards in
    let left = c.placing_in.new.wards in
    let same : left ≡ vec.items = c.in_ok-placing.ensures.same ∙ c.deref_mut.ensures.value in
    let whole = put_back vec.len left (drop (length left) vec.items) (vec.ok.0 ∙ ap length (sym same)) ∙ same in
    let placed = rw c.in-Some.is at c.in_ok-placing.ensures.placing in
    let begins = rw c.in-Some.is at c.in_ok-placing.ensures.begins in
    record {
      opened_is = c.new.ensures ∙ ap (in_file c.args.settings) whole;
      placing = c.in-Some.placing;
      form_is = refl;
      order_is = placed.order_is;
      stamps_are = placed.stamps_are;
      begins = subst (λ (wards : List (WardState AnyKeyer)). take (length c.args.lows.now) (lows_of (ordered_pages wards c.args.order.items)) ≡ c.args.lows.now) c.deref_mut.ensures.value begins;
    }

pub returns-in_err-placing-clause-counted : goal.returns-in_err-placing-clause-counted
returns-in_err-placing-clause-counted g c =
    handed_on (λ fault. fault ≡ draft_fault_of c.in_err-placing.field-0.0) (λ fault. fault ≡ Page → HasCountedOf g.P.Pages.failures c.args.wards.items)
    (λ fault same page. subst (HasCountedOf g.P.Pages.failures) c.deref_mut.ensures.value (c.in_err-placing.ensures.counted (reached c.in_err-placing.field-0.0 (sym same ∙ page) c.in_err-placing.ensures.fault)))
    c.from_residual.result c.from_residual.ensures
