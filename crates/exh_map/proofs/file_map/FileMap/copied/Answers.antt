use Rattle.std.proofs.Common.{IfOk, List, ◌++◌, length, drop, take, sym, ◌∙◌, subst}
use Rattle.exh_keyer.specs.declared.any_keyer.AnyKeyer.{AnyKeyer}
use Rattle.exh_ward.specs.WardState.{WardState}
use Rattle.exh_in_place.specs.Opened.{AreWardsOf, OpenedState, in_file}
use Rattle.exh_in_place.specs.Reopened.{IsReopened}
use Rattle.exh_in_place.specs.Saved.{AreUnchanged}
use Rattle.exh_map.specs.FileMap.{KeepsMap}
use Rattle.exh_map.proofs.AgainLemmas.{keeps_again_if, wards_again_if}
use Rattle.exh_map.proofs.LeftLemmas.{put_back, still_map, still_wards}
use Rattle.exh_map.proofs.file_map.FileMap.copied.Goals as goal

pub invariant_of-self : goal.invariant_of-self
invariant_of-self g c =
    let own = c.self.inside in
    let left = c.copied.new.wards in
    let same : AreUnchanged own.wards.items left = subst (λ (wards : List (WardState AnyKeyer)). AreUnchanged wards left) c.deref_mut.ensures.value c.copied.ensures.wards in
    let whole = put_back own.wards.len left (drop (length left) own.wards.items) (own.wards.ok.0 ∙ sym same.count) in
    subst (λ (wards : List (WardState AnyKeyer)). AreWardsOf (in_file own.settings wards)) (sym whole) (still_wards (in_file own.settings own.wards.items) left same c.self.invariant)

pub returns-clause-kept : goal.returns-clause-kept
returns-clause-kept g c =
    let own = c.self.inside in
    let left = c.copied.new.wards in
    let same : AreUnchanged own.wards.items left = subst (λ (wards : List (WardState AnyKeyer)). AreUnchanged wards left) c.deref_mut.ensures.value c.copied.ensures.wards in
    let whole = put_back own.wards.len left (drop (length left) own.wards.items) (own.wards.ok.0 ∙ sym same.count) in
    subst (λ (old : OpenedState). KeepsMap old (in_file own.settings (take own.wards.len (left ++ drop (length left) own.wards.items)))) c.self.view_is
    (subst (λ (wards : List (WardState AnyKeyer)). KeepsMap (in_file own.settings own.wards.items) (in_file own.settings wards)) (sym whole) (still_map (in_file own.settings own.wards.items) left same))

pub returns-clause-wards : goal.returns-clause-wards
returns-clause-wards g c =
    let own = c.self.inside in
    let again : IfOk c.copied.result (IsReopened (in_file own.settings own.wards.items)) = subst (λ (wards : List (WardState AnyKeyer)). IfOk c.copied.result (IsReopened (in_file own.settings wards))) c.deref_mut.ensures.value c.copied.ensures.copy in
    wards_again_if (in_file own.settings own.wards.items) c.copied.result c.self.invariant again

pub returns-clause-same : goal.returns-clause-same
returns-clause-same g c =
    let own = c.self.inside in
    let again : IfOk c.copied.result (IsReopened (in_file own.settings own.wards.items)) = subst (λ (wards : List (WardState AnyKeyer)). IfOk c.copied.result (IsReopened (in_file own.settings wards))) c.deref_mut.ensures.value c.copied.ensures.copy in
    subst (λ (old : OpenedState). IfOk c.copied.result (λ copy. KeepsMap old copy)) c.self.view_is (keeps_again_if (in_file own.settings own.wards.items) c.copied.result again)
