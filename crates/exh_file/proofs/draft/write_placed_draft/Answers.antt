use Rattle.std.proofs.Common.{List, length, drop, refl, sym, ap, ◌∙◌, subst}
use Rattle.exh_keyer.specs.declared.any_keyer.AnyKeyer.{AnyKeyer}
use Rattle.exh_ward.specs.WardState.{WardState}
use Rattle.exh_file.specs.Opened.{AreWardsOf, OpenedState, in_file}
use Rattle.exh_file.specs.Placing.{IsPlacingOf}
use Rattle.exh_file.specs.Saved.{AreUnchanged, IsLeft}
use Rattle.exh_file.proofs.Left.{put_back, same_file, still_wards}
use Rattle.exh_file.proofs.StillPlaced.{still_placing}
use Rattle.exh_file.proofs.draft.write_placed_draft.Goals as goal

pub new-requires : goal.new-requires
new-requires g c =
    let settings = c.settings-settings.result in
    let vec = c.into_wards-wards.result in
    let left = c.write_placed_to-written.new.wards in
    let same : AreUnchanged vec.items left = subst (λ (wards : List (WardState AnyKeyer)). AreUnchanged wards left) c.deref_mut.ensures.value c.write_placed_to-written.ensures.wards in
    let whole = put_back vec.len left (drop (length left) vec.items) (vec.ok.0 ∙ sym same.count) in
    let was = same_file c.args.opened settings vec.items c.settings-settings.ensures c.into_wards-wards.ensures.wards in
    subst (λ (wards : List (WardState AnyKeyer)). AreWardsOf (in_file settings wards)) (sym whole) (still_wards (in_file settings vec.items) left (subst AreWardsOf (sym was) c.into_wards-wards.ensures.each) same)

pub invariant_of-left : goal.invariant_of-left
invariant_of-left g c =
    let settings = c.settings-settings.result in
    let vec = c.into_wards-wards.result in
    let left = c.write_placed_to-written.new.wards in
    let same : AreUnchanged vec.items left = subst (λ (wards : List (WardState AnyKeyer)). AreUnchanged wards left) c.deref_mut.ensures.value c.write_placed_to-written.ensures.wards in
    let whole = put_back vec.len left (drop (length left) vec.items) (vec.ok.0 ∙ sym same.count) in
    let was = same_file c.args.opened settings vec.items c.settings-settings.ensures c.into_wards-wards.ensures.wards in
    let is = still_placing (in_file settings vec.items) left c.args.placing same (subst (λ (o : OpenedState). IsPlacingOf o c.args.placing) (sym was) c.requires) in
    subst (λ (o : OpenedState). IsPlacingOf o c.args.placing) (sym (c.new.ensures ∙ ap (in_file settings) whole)) is

pub returns-clause-left : goal.returns-clause-left
returns-clause-left g c =
    let settings = c.settings-settings.result in
    let vec = c.into_wards-wards.result in
    let left = c.write_placed_to-written.new.wards in
    let same : AreUnchanged vec.items left = subst (λ (wards : List (WardState AnyKeyer)). AreUnchanged wards left) c.deref_mut.ensures.value c.write_placed_to-written.ensures.wards in
    let whole = put_back vec.len left (drop (length left) vec.items) (vec.ok.0 ∙ sym same.count) in
    let was = same_file c.args.opened settings vec.items c.settings-settings.ensures c.into_wards-wards.ensures.wards in
    let kept : IsLeft (in_file settings vec.items) (in_file settings left) = record { settings = refl; unchanged = same } in
    record {
      opened = subst (λ (new : OpenedState). IsLeft c.args.opened new) (sym (c.new.ensures ∙ ap (in_file settings) whole)) (subst (λ (old : OpenedState). IsLeft old (in_file settings left)) was kept);
      form = refl;
    }
