use Rattle.std.proofs.Common.{◌∙◌, ◌∷◌, ◌++◌, ◌+◌, [], drop, flat_map, length, ap, refl}
use Rattle.std.specs.List.{enumerate_from}
use Rattle.exh_stream.specs.OutputLemmas.{Takes-none}
use Rattle.exh_report.specs.Dump.{page_lines, ward_lines, ward_words}
use Rattle.std.proofs.lemmas.List.{drop_all}
use Rattle.exh_report.proofs.Told.{drop_next, failed_so, next_split, still_open, stops_told, takes_both, told_all}
use Rattle.exh_report.proofs.dump.dump_ward.Goals as goal

pub returns-in_err-tell_ward-clause-told : goal.returns-in_err-tell_ward-clause-told
returns-in_err-tell_ward-clause-told g c =
    stops_told g.W.Write.contents (Unit {0}) c.args.output.now c.args.output.now c.tell_ward.new.output (ward_lines (c.args.ward, c.args.pages.now)) []
    (ward_words c.args.ward (length c.args.pages.now) ∷ []) (flat_map (page_lines c.args.ward) (enumerate_from 0 c.args.pages.now)) c.in_err-tell_ward.field-0.0 c.from_residual.result
    refl (Takes-none g.W.Write.contents c.args.output.now) c.from_residual.ensures c.in_err-tell_ward.ensures.told

pub loop-number-init : goal.loop-number-init
loop-number-init g c = record {
  same_writer = c.tell_ward.ensures.same_writer;
  open_still = still_open c.in_ok-tell_ward.field-0 _ c.in_ok-tell_ward.ensures.failed.1;
  front = ward_words c.args.ward (length c.args.pages.now) ∷ [];
  split = refl;
  passed = c.in_ok-tell_ward.ensures.told;
}

pub loop-number-preserved : goal.loop-number-preserved
loop-number-preserved g c =
    let i = c.loop-number.invariant in
    let ward = c.args.ward in
    let number = c.loop-number.number in
    let some = page_lines ward (number, c.index-pages-number.result) in
    let rest = flat_map (page_lines ward) (enumerate_from (number + 1) (drop (number + 1) c.args.pages.now)) in
    let left = ap (λ pages. flat_map (page_lines ward) (enumerate_from number pages)) (drop_next c.args.pages.now number c.index-pages-number.result c.loop-number-test.true c.index-pages-number.is) in
    record {
      same_writer = c.tell_page.ensures.same_writer ∙ i.same_writer;
      open_still = still_open c.in_ok-tell_page.field-0 _ c.in_ok-tell_page.ensures.failed.1;
      front = i.front ++ some;
      split = next_split i.front some rest i.split left;
      passed = takes_both g.W.Write.contents c.args.output.now c.loop-number.output c.tell_page.new.output i.front some i.passed c.in_ok-tell_page.ensures.told;
    }

pub returns-in_err-tell_page-clause-told : goal.returns-in_err-tell_page-clause-told
returns-in_err-tell_page-clause-told g c =
    let i = c.loop-number.invariant in
    let ward = c.args.ward in
    let number = c.loop-number.number in
    let some = page_lines ward (number, c.index-pages-number.result) in
    let rest = flat_map (page_lines ward) (enumerate_from (number + 1) (drop (number + 1) c.args.pages.now)) in
    let left = ap (λ pages. flat_map (page_lines ward) (enumerate_from number pages)) (drop_next c.args.pages.now number c.index-pages-number.result c.loop-number-test.true c.index-pages-number.is) in
    stops_told g.W.Write.contents (Unit {0}) c.args.output.now c.loop-number.output c.tell_page.new.output (ward_lines (ward, c.args.pages.now)) i.front some rest
    c.in_err-tell_page.field-0.0 c.from_residual-in_err-tell_page.result (next_split i.front some rest i.split left) i.passed c.from_residual-in_err-tell_page.ensures c.in_err-tell_page.ensures.told

pub returns-clause-told : goal.returns-clause-told
returns-clause-told g c =
    let i = c.loop-number.invariant in
    let none = ap (λ pages. flat_map (page_lines c.args.ward) (enumerate_from c.loop-number.number pages)) (drop_all c.loop-number.number c.args.pages.now c.loop-number-test.false) in
    told_all g.W.Write.contents c.args.output.now c.loop-number.output (ward_lines (c.args.ward, c.args.pages.now)) i.front none i.split i.passed

pub returns-in_err-tell_page-clause-failed : goal.returns-in_err-tell_page-clause-failed
returns-in_err-tell_page-clause-failed g c = failed_so c.from_residual-in_err-tell_page.result c.in_err-tell_page.field-0.0 _ c.from_residual-in_err-tell_page.ensures.1 c.in_err-tell_page.ensures.failed
