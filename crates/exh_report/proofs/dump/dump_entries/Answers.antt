use Rattle.std.proofs.Common.{◌∙◌, ◌∷◌, ◌++◌, ◌+◌, [], map, drop, ap, refl}
use Rattle.exh_stream.specs.OutputLemmas.{Takes-none}
use Rattle.exh_report.specs.Dump.{item_words}
use Rattle.std.proofs.lemmas.List.{drop_all}
use Rattle.exh_report.proofs.Told.{drop_next, failed_so, next_split, still_open, stops_told, takes_both, told_all}
use Rattle.exh_report.proofs.dump.dump_entries.Goals as goal

pub loop-item-init : goal.loop-item-init
loop-item-init g c = record {
  same_writer = refl;
  open_still = c.requires;
  front = [];
  split = refl;
  passed = Takes-none g.W.Write.contents c.args.output.now;
}

pub loop-item-preserved : goal.loop-item-preserved
loop-item-preserved g c =
    let i = c.loop-item.invariant in
    let left = ap (map item_words) (drop_next c.args.entries.now c.loop-item.item-index c.item-item.result c.loop-item-test.true c.item-item.is) in
    record {
      same_writer = c.tell_entry.ensures.same_writer ∙ i.same_writer;
      open_still = still_open c.in_ok-tell_entry.field-0 _ c.in_ok-tell_entry.ensures.failed.1;
      front = i.front ++ (item_words c.item-item.result ∷ []);
      split = next_split i.front (item_words c.item-item.result ∷ []) _ i.split left;
      passed = takes_both g.W.Write.contents c.args.output.now c.loop-item.output c.tell_entry.new.output i.front (item_words c.item-item.result ∷ []) i.passed c.in_ok-tell_entry.ensures.told;
    }

pub returns-in_err-tell_entry-clause-told : goal.returns-in_err-tell_entry-clause-told
returns-in_err-tell_entry-clause-told g c =
    let i = c.loop-item.invariant in
    let some = item_words c.item-item.result ∷ [] in
    let rest = map item_words (drop (c.loop-item.item-index + 1) c.args.entries.now) in
    let left = ap (map item_words) (drop_next c.args.entries.now c.loop-item.item-index c.item-item.result c.loop-item-test.true c.item-item.is) in
    stops_told g.W.Write.contents (Unit {0}) c.args.output.now c.loop-item.output c.tell_entry.new.output (map item_words c.args.entries.now) i.front some rest c.in_err-tell_entry.field-0.0 c.from_residual.result
    (next_split i.front some rest i.split left) i.passed c.from_residual.ensures c.in_err-tell_entry.ensures.told

pub returns-clause-told : goal.returns-clause-told
returns-clause-told g c =
    let i = c.loop-item.invariant in
    let none = ap (map item_words) (drop_all c.loop-item.item-index c.args.entries.now c.loop-item-test.false) in
    told_all g.W.Write.contents c.args.output.now c.loop-item.output (map item_words c.args.entries.now) i.front none i.split i.passed

pub returns-in_err-tell_entry-clause-failed : goal.returns-in_err-tell_entry-clause-failed
returns-in_err-tell_entry-clause-failed g c = failed_so c.from_residual.result c.in_err-tell_entry.field-0.0 _ c.from_residual.ensures.1 c.in_err-tell_entry.ensures.failed
