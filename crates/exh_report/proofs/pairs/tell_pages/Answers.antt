use Rattle.std.proofs.Common.{◌∙◌, ◌++◌, ◌+◌, [], drop, flat_map, ap, refl}
use Rattle.exh_stream.specs.OutputLemmas.{Takes-none}
use Rattle.exh_report.specs.PairsText.{records_lines}
use Rattle.std.proofs.lemmas.List.{drop_all}
use Rattle.exh_report.proofs.Told.{drop_next, failed_so, next_split, still_open, stops_told, takes_both, told_all}
use Rattle.exh_report.proofs.pairs.tell_pages.Goals as goal

pub loop-page-init : goal.loop-page-init
loop-page-init g c = record {
  same_writer = refl;
  open_still = c.requires;
  front = [];
  split = refl;
  passed = Takes-none g.W.Write.contents c.args.output.now;
}

pub loop-page-preserved : goal.loop-page-preserved
loop-page-preserved g c =
    let i = c.loop-page.invariant in
    let some = records_lines c.page-item.result in
    let rest = flat_map records_lines (drop (c.loop-page.page-index + 1) c.args.pages.now) in
    let left = ap (flat_map records_lines) (drop_next c.args.pages.now c.loop-page.page-index c.page-item.result c.loop-page-test.true c.page-item.is) in
    record {
      same_writer = c.tell_records.ensures.same_writer ∙ i.same_writer;
      open_still = still_open c.in_ok-tell_records.field-0 _ c.in_ok-tell_records.ensures.failed.1;
      front = i.front ++ some;
      split = next_split i.front some rest i.split left;
      passed = takes_both g.W.Write.contents c.args.output.now c.loop-page.output c.tell_records.new.output i.front some i.passed c.in_ok-tell_records.ensures.told;
    }

pub returns-in_err-tell_records-clause-told : goal.returns-in_err-tell_records-clause-told
returns-in_err-tell_records-clause-told g c =
    let i = c.loop-page.invariant in
    let some = records_lines c.page-item.result in
    let rest = flat_map records_lines (drop (c.loop-page.page-index + 1) c.args.pages.now) in
    let left = ap (flat_map records_lines) (drop_next c.args.pages.now c.loop-page.page-index c.page-item.result c.loop-page-test.true c.page-item.is) in
    stops_told g.W.Write.contents (Unit {0}) c.args.output.now c.loop-page.output c.tell_records.new.output (flat_map records_lines c.args.pages.now) i.front some rest c.in_err-tell_records.field-0.0 c.from_residual.result
    (next_split i.front some rest i.split left) i.passed c.from_residual.ensures c.in_err-tell_records.ensures.told

pub returns-clause-told : goal.returns-clause-told
returns-clause-told g c =
    let i = c.loop-page.invariant in
    let none = ap (flat_map records_lines) (drop_all c.loop-page.page-index c.args.pages.now c.loop-page-test.false) in
    told_all g.W.Write.contents c.args.output.now c.loop-page.output (flat_map records_lines c.args.pages.now) i.front none i.split i.passed

pub returns-in_err-tell_records-clause-failed : goal.returns-in_err-tell_records-clause-failed
returns-in_err-tell_records-clause-failed g c = failed_so c.from_residual.result c.in_err-tell_records.field-0.0 _ c.from_residual.ensures.1 c.in_err-tell_records.ensures.failed
