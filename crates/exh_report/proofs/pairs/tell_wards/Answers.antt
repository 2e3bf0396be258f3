use Rattle.std.proofs.Common.{◌∙◌, ◌++◌, ◌+◌, [], ap, drop, flat_map, map, refl}
use Rattle.exh_stream.specs.OutputLemmas.{Takes-none}
use Rattle.exh_report.specs.PairsText.{records_lines}
use Rattle.std.proofs.lemmas.List.{drop_all}
use Rattle.exh_report.proofs.Told.{failed_so, next_split, records_left, still_open, stops_told, takes_both, told_all}
use Rattle.exh_report.proofs.pairs.tell_wards.Goals as goal

pub loop-ward-init : goal.loop-ward-init
loop-ward-init g c = record {
  same_writer = refl;
  open_still = c.requires;
  front = [];
  split = refl;
  passed = Takes-none g.W.Write.contents c.args.output.now;
}

pub loop-ward-preserved : goal.loop-ward-preserved
loop-ward-preserved g c =
    let i = c.loop-ward.invariant in
    let number = c.loop-ward.ward-index in
    let some = flat_map records_lines c.deref.result.now in
    let rest = flat_map (flat_map records_lines) (map (λ ward. ward.items) (drop (number + 1) c.args.wards.now)) in
    let left = records_left c.args.wards.now number c.ward-item.result c.deref.result.now c.loop-ward-test.true c.ward-item.is c.deref.ensures.value in
    record {
      same_writer = c.tell_pages.ensures.same_writer ∙ i.same_writer;
      open_still = still_open c.in_ok-tell_pages.field-0 _ c.in_ok-tell_pages.ensures.failed.1;
      front = i.front ++ some;
      split = next_split i.front some rest i.split left;
      passed = takes_both g.W.Write.contents c.args.output.now c.loop-ward.output c.tell_pages.new.output i.front some i.passed c.in_ok-tell_pages.ensures.told;
    }

pub returns-in_err-tell_pages-clause-told : goal.returns-in_err-tell_pages-clause-told
returns-in_err-tell_pages-clause-told g c =
    let i = c.loop-ward.invariant in
    let number = c.loop-ward.ward-index in
    let some = flat_map records_lines c.deref.result.now in
    let rest = flat_map (flat_map records_lines) (map (λ ward. ward.items) (drop (number + 1) c.args.wards.now)) in
    let left = records_left c.args.wards.now number c.ward-item.result c.deref.result.now c.loop-ward-test.true c.ward-item.is c.deref.ensures.value in
    stops_told g.W.Write.contents (Unit {0}) c.args.output.now c.loop-ward.output c.tell_pages.new.output (flat_map (flat_map records_lines) (map (λ ward. ward.items) c.args.wards.now)) i.front some rest
    c.in_err-tell_pages.field-0.0 c.from_residual.result (next_split i.front some rest i.split left) i.passed c.from_residual.ensures c.in_err-tell_pages.ensures.told

pub returns-clause-told : goal.returns-clause-told
returns-clause-told g c =
    let i = c.loop-ward.invariant in
    let none = ap (λ wards. flat_map (flat_map records_lines) (map (λ ward. ward.items) wards)) (drop_all c.loop-ward.ward-index c.args.wards.now c.loop-ward-test.false) in
    told_all g.W.Write.contents c.args.output.now c.loop-ward.output (flat_map (flat_map records_lines) (map (λ ward. ward.items) c.args.wards.now)) i.front none i.split i.passed

pub returns-in_err-tell_pages-clause-failed : goal.returns-in_err-tell_pages-clause-failed
returns-in_err-tell_pages-clause-failed g c = failed_so c.from_residual.result c.in_err-tell_pages.field-0.0 _ c.from_residual.ensures.1 c.in_err-tell_pages.ensures.failed
