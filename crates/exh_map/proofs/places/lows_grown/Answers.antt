use Rattle.std.proofs.Common.{◌≡◌, ◌<◌, ◌++◌, ◌+◌, suc, drop, ◌∙◌, List, length, slice_get, Some, Result, OnErr, Ok, Err, refl, sym, ap, subst, arith}
use Rattle.std.specs.Prelude.{slice_set}
use Rattle.std.proofs.lemmas.List.{set-get_or}
use Rattle.std.proofs.lemmas.Option.{slice_get_read}
use Rattle.exh_keyer.specs.declared.any_keyer.AnyKeyer.{AnyKeyer}
use Rattle.exh_ward.specs.WardState.{WardState}
use Rattle.exh_in_place.specs.Opened.{AreWardsOf, in_file}
use Rattle.exh_map.specs.FileMap.{KeepsMap}
use Rattle.exh_map.specs.Places.{lows_of, others_to}
use Rattle.exh_map.proofs.PlaceLemmas.{ward_more}
use Rattle.exh_map.proofs.SetLemmas.{keeps_set, unchanged_same, wards_set}
use Rattle.exh_map.proofs.places.lows_grown.Goals as goal

on_err : {T E : Type 0} (P : Type 0) (result : Result T E) → P → OnErr result P
on_err P (Ok done) holds = tt
on_err P (Err fault) holds = holds

pub wards-preserved : goal.wards-preserved
wards-preserved g c =
    let bits = c.args.settings.ward_bits in
    let lows = c.args.lows.now in
    let wards = c.wards.wards.items in
    let own = c.args.wards.now.items in
    let number = c.wards.number in
    let ward = c.index_mut.result.now in
    let kept = c.wards.invariant in
    let within : number < length wards = omega (arith, c.wards-test.true, c.len-number-end.ensures, c.args.wards.now.ok.0, ap length kept.same) in
    let there : slice_get own number ≡ Some ward = subst (λ (all : List (WardState AnyKeyer)). slice_get all number ≡ Some ward) kept.same (slice_get_read wards (length wards) number ward refl within c.index_mut.ensures.value) in
    let added = drop c.placed_in-placed.result (lows_of ward) in
    let more = ward_more bits number lows c.wards.grown.items c.push_others.new.lows.items own ward added there kept.put (ap (λ n. drop n (lows_of ward)) c.placed_in-placed.ensures) c.in_ok-push_others.ensures.lows in
    let next : suc number ≡ number + 1 = omega arith in
    record {
      same = ap (slice_set wards number) (c.in_ok-push_others.ensures.ok ∙ c.index_mut.ensures.value) ∙ set-get_or wards number ward ∙ kept.same;
      put = subst (λ n. c.push_others.new.lows.items ≡ lows ++ others_to bits lows own n) next more;
    }

pub returns-in_err-push_others-clause-err : goal.returns-in_err-push_others-clause-err
returns-in_err-push_others-clause-err g c =
    let settings = c.args.settings in
    let wards = c.wards.wards.items in
    let ward = c.index_mut.result.now in
    let within : c.wards.number < length wards = omega (arith, c.wards-test.true, c.len-number-end.ensures, c.args.wards.now.ok.0, ap length c.wards.invariant.same) in
    let there : slice_get wards c.wards.number ≡ Some ward = slice_get_read wards (length wards) c.wards.number ward refl within c.index_mut.ensures.value in
    let kept = keeps_set (in_file settings wards) c.wards.number ward c.push_others.new.ward there (unchanged_same ward c.push_others.new.ward c.in_err-push_others.ensures.err) in
    on_err _ c.from_residual-in_err-push_others.result
    (subst (λ (old : List (WardState AnyKeyer)). KeepsMap (in_file settings old) (in_file settings (slice_set wards c.wards.number c.push_others.new.ward))) c.wards.invariant.same kept)

pub returns-in_err-push_others-clause-wards : goal.returns-in_err-push_others-clause-wards
returns-in_err-push_others-clause-wards g c =
    let settings = c.args.settings in
    let wards = c.wards.wards.items in
    let ward = c.index_mut.result.now in
    let within : c.wards.number < length wards = omega (arith, c.wards-test.true, c.len-number-end.ensures, c.args.wards.now.ok.0, ap length c.wards.invariant.same) in
    let there : slice_get wards c.wards.number ≡ Some ward = slice_get_read wards (length wards) c.wards.number ward refl within c.index_mut.ensures.value in
    let are = subst (λ (own : List (WardState AnyKeyer)). AreWardsOf (in_file settings own)) (sym c.wards.invariant.same) c.requires in
    wards_set (in_file settings wards) c.wards.number ward c.push_others.new.ward there are (unchanged_same ward c.push_others.new.ward c.in_err-push_others.ensures.err).settings
