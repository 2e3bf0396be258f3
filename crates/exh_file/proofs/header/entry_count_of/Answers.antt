use Rattle.std.proofs.Common.{◌≡◌, ℕ, List, length, take, slice_get, Some, inl, inr, refl, sym, ap, ◌∙◌, subst, length-append, arith}
use Rattle.std.proofs.lemmas.Bool.{cases_lt}
use Rattle.std.proofs.lemmas.List.{length-map, take_all}
use Rattle.std.proofs.lemmas.Option.{slice_get_read, slice_get_within}
use Rattle.std.specs.FinMap.{entries}
use Rattle.exh_prefix.specs.PrefixListLemmas.{one_there}
use Rattle.exh_keyer.specs.Pseudokey.{any_pseudokey}
use Rattle.exh_keyer.specs.declared.any_keyer.AnyKeyer.{AnyKeyer}
use Rattle.exh_ward.specs.WardState.{IsSoundWard, WardState}
use Rattle.exh_file.specs.Saved.{entries_of_all, entries_of, file_entry}
use Rattle.exh_file.proofs.Going.{entries_join, one_wards_entries}
use Rattle.exh_file.proofs.Lists.{next_is}
use Rattle.exh_file.proofs.header.entry_count_of.Goals as goal

pub entry_count_in-count-requires : goal.entry_count_in-count-requires
entry_count_in-count-requires g c =
    let wards = c.args.wards.now in
    let number = c.loop-number.number in
    let less = c.loop-number-test.true in
    c.requires.bits number c.index-wards-number.result (slice_get_read wards (length wards) number c.index-wards-number.result refl less c.index-wards-number.is)

pub loop-number-preserved : goal.loop-number-preserved
loop-number-preserved g c =
    let wards = c.args.wards.now in
    let number = c.loop-number.number in
    let ward = c.index-wards-number.result in
    let less = c.loop-number-test.true in
    let is = slice_get_read wards (length wards) number ward refl less c.index-wards-number.is in
    let inv = c.loop-number.invariant in
    let next = ap length (next_is entries_of_all entries_join wards number ward is (entries_of ward) (one_wards_entries ward)) in
    let own = length-map (entries ward.table) (file_entry ward.number) in
    record {
      count = omega (arith, inv.count, next, own, length-append (entries_of_all (take number wards)) (entries_of ward), c.entry_count_in-count.ensures.count);
      few = omega (arith, inv.few, c.entry_count_in-count.ensures.few);
      sound = λ at other before there. elim (cases_lt at number) [
        | inl earlier ↦ inv.sound at other earlier there
        | inr later ↦
            let here : at ≡ number = omega (arith, before, later) in
            let same : other ≡ ward = one_there wards at other ward there (subst (λ (n : ℕ). slice_get wards n ≡ Some ward) (sym here) is) in
            subst (λ (w : WardState AnyKeyer). IsSoundWard any_pseudokey w) (sym same) c.entry_count_in-count.ensures.sound
      ];
    }

pub returns-clause-count : goal.returns-clause-count
returns-clause-count g c = c.loop-number.invariant.count ∙ ap (λ (wards : List (WardState AnyKeyer)). length (entries_of_all wards)) (take_all c.loop-number.number c.args.wards.now c.loop-number-test.false)

pub returns-clause-sound : goal.returns-clause-sound
returns-clause-sound g c = λ number ward there. c.loop-number.invariant.sound number ward (omega (arith, slice_get_within c.args.wards.now number ward there, c.loop-number-test.false)) there
