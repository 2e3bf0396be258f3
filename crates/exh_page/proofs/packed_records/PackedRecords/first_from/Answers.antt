use Rattle.std.proofs.Common.{◌+◌, ◌<◌, ◌≤◌, length, [], get_or, inl, inr, refl, sym, ap, subst, arith}
use Rattle.std.proofs.lemmas.Bool.{cases_lt, false≢true}
use Rattle.std.proofs.lemmas.List.{drop_all, take_all}
use Rattle.std.proofs.lemmas.List.Elements.{All-more, recursion_from_All}
use Rattle.std.specs.List.{AllByRecursion}
use Rattle.exh_page.specs.declared.record.Record.{Record}
use Rattle.exh_page.specs.declared.stored_record.StoredRecord.{StoredRecord}
use Rattle.exh_page.specs.Search.{bound_of}
use Rattle.exh_page.proofs.Begun.{packed_words, rest_above, same_pseudokey}
use Rattle.exh_page.proofs.PackedReads.{as_many, packed_as, start_added, start_inside}
use Rattle.exh_page.proofs.packed_records.PackedRecords.first_from.Goals as goal

abbrev nothing : Record
nothing = record { pseudokey = 0; key = []; value = [] }

abbrev nothing_kept : StoredRecord
nothing_kept = record { pseudokey = 0; key_len = 0; whole_len = 0 }

pub loop-i-init : goal.loop-i-init
loop-i-init c = record { start_of = refl; before = λ k d none. absurd (omega (arith, none)) }

pub returns-then-not-is_below : goal.returns-then-not-is_below
returns-then-not-is_below c =
    let packed = packed_as c.self.invariant c.self.view_is in
    let within : c.loop-i.i < length c.args.self.now = omega (arith, c.loop-i-test.true, ap length c.deref-stored-items.ensures.value, as_many packed) in
    let same = same_pseudokey c.loop-i.i nothing_kept nothing packed c.deref-stored-items.ensures.value c.loop-i-test.true in
    let above : bound_of c.args.prefix c.args.past ≤ (get_or c.args.self.now c.loop-i.i nothing).pseudokey =
    elim (cases_lt (get_or c.args.self.now c.loop-i.i nothing).pseudokey (bound_of c.args.prefix c.args.past)) [
      | inl below ↦ absurd (false≢true (c.if-not-is_below.ensures.1 (omega (arith, same, below))))
      | inr above ↦ above
    ] in
    record {
      cut = record {
        spot = c.loop-i.invariant.start_of;
        within = omega (arith, within);
        below = recursion_from_All _ _ c.loop-i.invariant.before;
        rest = rest_above (bound_of c.args.prefix c.args.past) c.args.self.now c.loop-i.i nothing c.requires.rising within above;
      };
      words = packed_words packed;
    }

pub prove-unreachable-requires : goal.prove-unreachable-requires
prove-unreachable-requires c =
    omega (arith, c.loop-i.invariant.start_of, start_inside (packed_as c.self.invariant c.self.view_is) c.loop-i.i, ap length c.as_slice.ensures.value)

pub overflow_add-start : goal.overflow_add-start
overflow_add-start c =
    let packed = packed_as c.self.invariant c.self.view_is in
    let next = start_added packed c.deref-stored-items.result.now c.loop-i.i _ c.loop-i.start c.text_len-start.result c.deref-stored-items.ensures.value c.loop-i-test.true c.loop-i.invariant.start_of c.text_len-start.ensures in
    omega (arith, next, start_inside packed (c.loop-i.i + 1), ap length c.as_slice.ensures.value, c.as_slice.type_inv.0)

pub loop-i-preserved : goal.loop-i-preserved
loop-i-preserved c =
    let packed = packed_as c.self.invariant c.self.view_is in
    let within : c.loop-i.i < length c.args.self.now = omega (arith, c.loop-i-test.true, ap length c.deref-stored-items.ensures.value, as_many packed) in
    let same = same_pseudokey c.loop-i.i nothing_kept nothing packed c.deref-stored-items.ensures.value c.loop-i-test.true in
    let below : (get_or c.args.self.now c.loop-i.i nothing).pseudokey < bound_of c.args.prefix c.args.past = omega (arith, same, c.if-not-is_below.ensures.0 refl) in
    record {
      start_of = start_added packed c.deref-stored-items.result.now c.loop-i.i _ c.loop-i.start c.text_len-start.result c.deref-stored-items.ensures.value c.loop-i-test.true c.loop-i.invariant.start_of c.text_len-start.ensures;
      before = All-more (λ r. r.pseudokey < bound_of c.args.prefix c.args.past) c.args.self.now c.loop-i.i nothing within c.loop-i.invariant.before below;
    }

pub returns : goal.returns
returns c =
    let packed = packed_as c.self.invariant c.self.view_is in
    let past : length c.args.self.now ≤ c.loop-i.i = omega (arith, c.loop-i-test.false, ap length c.deref-stored-items.ensures.value, as_many packed) in
    let below : AllByRecursion (λ r. r.pseudokey < bound_of c.args.prefix c.args.past) c.args.self.now =
    subst (AllByRecursion (λ r. r.pseudokey < bound_of c.args.prefix c.args.past)) (take_all c.loop-i.i c.args.self.now past) (recursion_from_All _ _ c.loop-i.invariant.before) in
    record {
      cut = record {
        spot = c.end.ensures.spot;
        within = omega (arith, c.end.ensures.index);
        below = subst (AllByRecursion (λ r. r.pseudokey < bound_of c.args.prefix c.args.past)) (sym (take_all c.end.result.index c.args.self.now (omega (arith, c.end.ensures.index)))) below;
        rest = subst (AllByRecursion (λ r. bound_of c.args.prefix c.args.past ≤ r.pseudokey)) (sym (drop_all c.end.result.index c.args.self.now (omega (arith, c.end.ensures.index)))) tt;
      };
      words = packed_words packed;
    }
