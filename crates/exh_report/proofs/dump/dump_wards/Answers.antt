use Rattle.std.proofs.Common.{◌∙◌, ◌++◌, ◌+◌, ap, drop, map, flat_map}
use Rattle.std.specs.List.{enumerate_from}
use Rattle.exh_report.specs.Dump.{ward_lines}
use Rattle.std.proofs.lemmas.List.{drop_all}
use Rattle.exh_report.proofs.Told.{next_split, still_open, stops_told, takes_both, told_all, ward_left}
use Rattle.exh_report.proofs.dump.dump_wards.Goals as goal

pub loop-number-preserved : goal.loop-number-preserved
loop-number-preserved g c =
    let i = c.loop-number.invariant in
    let number = c.loop-number.number in
    let some = ward_lines (number, c.deref.result.now) in
    let rest = flat_map ward_lines (enumerate_from (number + 1) (map (λ ward. ward.items) (drop (number + 1) c.args.wards.now))) in
    let left = ward_left c.args.wards.now number c.index-wards-number.result c.deref.result.now c.loop-number-test.true c.index-wards-number.is c.deref.ensures.value in
    record {
      same_writer = c.dump_ward.ensures.same_writer ∙ i.same_writer;
      open_still = still_open c.in_ok-dump_ward.field-0 _ c.in_ok-dump_ward.ensures.failed.1;
      front = i.front ++ some;
      split = next_split i.front some rest i.split left;
      passed = takes_both g.W.Write.contents c.args.output.now c.loop-number.output c.dump_ward.new.output i.front some i.passed c.in_ok-dump_ward.ensures.told;
    }

pub returns-in_err-dump_ward-clause-told : goal.returns-in_err-dump_ward-clause-told
returns-in_err-dump_ward-clause-told g c =
    let i = c.loop-number.invariant in
    let number = c.loop-number.number in
    let some = ward_lines (number, c.deref.result.now) in
    let rest = flat_map ward_lines (enumerate_from (number + 1) (map (λ ward. ward.items) (drop (number + 1) c.args.wards.now))) in
    let left = ward_left c.args.wards.now number c.index-wards-number.result c.deref.result.now c.loop-number-test.true c.index-wards-number.is c.deref.ensures.value in
    stops_told g.W.Write.contents (Unit {0}) c.args.output.now c.loop-number.output c.dump_ward.new.output (flat_map ward_lines (enumerate_from 0 (map (λ ward. ward.items) c.args.wards.now))) i.front some rest
    c.in_err-dump_ward.field-0.0 c.from_residual.result (next_split i.front some rest i.split left) i.passed c.from_residual.ensures c.in_err-dump_ward.ensures.told

pub returns-clause-told : goal.returns-clause-told
returns-clause-told g c =
    let i = c.loop-number.invariant in
    let none = ap (λ wards. flat_map ward_lines (enumerate_from c.loop-number.number (map (λ ward. ward.items) wards))) (drop_all c.loop-number.number c.args.wards.now c.loop-number-test.false) in
    told_all g.W.Write.contents c.args.output.now c.loop-number.output (flat_map ward_lines (enumerate_from 0 (map (λ ward. ward.items) c.args.wards.now))) i.front none i.split i.passed
