use Rattle.std.proofs.Common.{◌≡◌, ◌<◌, ◌≤◌, ◌∙◌, ℕ, inl, inr, List, length, slice_get, Some, Result, OnErr, Ok, Err, refl, sym, ap, subst, arith}
use Rattle.std.specs.Prelude.{slice_set}
use Rattle.std.proofs.lemmas.Bool.{cases_eq}
use Rattle.std.proofs.lemmas.Option.{slice_get_read, slice_get_within}
use Rattle.exh_prefix.specs.PrefixListLemmas.{one_there}
use Rattle.exh_keyer.specs.Pseudokey.{any_pseudokey}
use Rattle.exh_keyer.specs.declared.any_keyer.AnyKeyer.{AnyKeyer}
use Rattle.exh_ward.specs.WardState.{IsSoundWard, WardState}
use Rattle.exh_in_place.specs.Opened.{AreWardsOf, in_file}
use Rattle.exh_map.specs.FileMap.{KeepsMap}
use Rattle.exh_map.proofs.OnceLemmas.{file_once, has_all}
use Rattle.exh_map.proofs.PairsLemmas.{set_same, wards_on}
use Rattle.exh_map.proofs.SetLemmas.{keeps_set, unchanged_same, wards_set}
use Rattle.exh_map.proofs.pairs.pairs_of.Goals as goal

on_err : {T E : Type 0} (P : Type 0) (result : Result T E) → P → OnErr result P
on_err P (Ok done) holds = tt
on_err P (Err fault) holds = holds

pub returns-in_err-push_ward-clause-err : goal.returns-in_err-push_ward-clause-err
returns-in_err-push_ward-clause-err g c =
    let settings = c.args.settings in
    let wards = c.wards.wards.items in
    let ward = c.index_mut.result.now in
    let within : c.wards.number < length wards = omega (arith, c.wards-test.true, c.len-number-end.ensures, c.args.wards.now.ok.0, ap length c.wards.invariant.same) in
    let there : slice_get wards c.wards.number ≡ Some ward = slice_get_read wards (length wards) c.wards.number ward refl within c.index_mut.ensures.value in
    let kept = keeps_set (in_file settings wards) c.wards.number ward c.push_ward.new.ward there (unchanged_same ward c.push_ward.new.ward c.in_err-push_ward.ensures.err) in
    on_err _ c.from_residual.result
    (subst (λ (old : List (WardState AnyKeyer)). KeepsMap (in_file settings old) (in_file settings (slice_set wards c.wards.number c.push_ward.new.ward))) c.wards.invariant.same kept)

pub returns-in_err-push_ward-clause-wards : goal.returns-in_err-push_ward-clause-wards
returns-in_err-push_ward-clause-wards g c =
    let settings = c.args.settings in
    let wards = c.wards.wards.items in
    let ward = c.index_mut.result.now in
    let within : c.wards.number < length wards = omega (arith, c.wards-test.true, c.len-number-end.ensures, c.args.wards.now.ok.0, ap length c.wards.invariant.same) in
    let there : slice_get wards c.wards.number ≡ Some ward = slice_get_read wards (length wards) c.wards.number ward refl within c.index_mut.ensures.value in
    let are = subst (λ (own : List (WardState AnyKeyer)). AreWardsOf (in_file settings own)) (sym c.wards.invariant.same) c.requires in
    wards_set (in_file settings wards) c.wards.number ward c.push_ward.new.ward there are (unchanged_same ward c.push_ward.new.ward c.in_err-push_ward.ensures.err).settings

pub wards-preserved : goal.wards-preserved
wards-preserved g c =
    let is = c.wards.invariant in
    let items = c.args.wards.now.items in
    let ward = c.index_mut.result.now in
    let small : c.wards.number < length c.wards.wards.items = omega (arith, c.wards-test.true, c.len-number-end.ensures, c.args.wards.now.ok.0, ap length is.same) in
    let there_now : slice_get c.wards.wards.items c.wards.number ≡ Some ward = slice_get_read c.wards.wards.items (length c.wards.wards.items) c.wards.number ward refl small c.index_mut.ensures.value in
    let there : slice_get items c.wards.number ≡ Some ward = subst (λ (wards : List (WardState AnyKeyer)). slice_get wards c.wards.number ≡ Some ward) is.same there_now in
    record {
      within = omega (arith, small, ap length is.same);
      pairs = wards_on items c.wards.number ward there is.pairs c.in_ok-push_ward.ensures.pairs;
      same = set_same c.wards.wards.items c.wards.number ward c.push_ward.new.ward there_now c.in_ok-push_ward.ensures.same ∙ is.same;
      sound = λ number one less found. elim (cases_eq number c.wards.number) [
        | inl same ↦
            let one_is : one ≡ ward = one_there items c.wards.number one ward (subst (λ (n : ℕ). slice_get items n ≡ Some one) same found) there in
            subst (IsSoundWard any_pseudokey) (sym one_is) c.push_ward.ensures.sound
        | inr differ ↦ is.sound number one (omega (arith, less, differ)) found
      ];
    }

pub returns-clause-once : goal.returns-clause-once
returns-clause-once g c =
    let items = c.args.wards.now.items in
    let all : length items ≤ c.wards.number = omega (arith, c.wards-test.false, c.len-number-end.ensures, c.args.wards.now.ok.0) in
    file_once (in_file c.args.settings items) c.requires (λ number ward there. c.wards.invariant.sound number ward (omega (arith, all, slice_get_within items number ward there)) there)

pub returns-clause-has : goal.returns-clause-has
returns-clause-has g c =
    let items = c.args.wards.now.items in
    let all : length items ≤ c.wards.number = omega (arith, c.wards-test.false, c.len-number-end.ensures, c.args.wards.now.ok.0) in
    has_all (in_file c.args.settings items) c.requires (λ number ward there. c.wards.invariant.sound number ward (omega (arith, all, slice_get_within items number ward there)) there)
