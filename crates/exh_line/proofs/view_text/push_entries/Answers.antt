use Rattle.std.proofs.Common.{◌++◌, append_assoc, flat_map, sym, ap, ◌∙◌}
use Rattle.std.proofs.lemmas.List.{append-nil}
use Rattle.std.proofs.lemmas.Result.{IfOk-from_err}
use Rattle.exh_text.specs.TextLemmas.{keeps_all, keeps_more}
use Rattle.exh_line.specs.Shown.{entry_line}
use Rattle.exh_line.proofs.view_text.push_entries.Goals as goal

pub loop-prefix-init : goal.loop-prefix-init
loop-prefix-init c = record {
  told = ap (λ its. c.args.out.now.items ++ flat_map entry_line its) (c.into_iter-prefix-iterator.ensures.into_iter_gives ∙ c.entries-prefix-items.ensures);
  kept = keeps_all c.args.out.now.items;
}

pub loop-prefix-preserved : goal.loop-prefix-preserved
loop-prefix-preserved c =
    let was = c.loop-prefix.invariant in
    let before = c.loop-prefix.out.items in
    let later = flat_map entry_line c.next.new.self in
    record {
      told =
          ap (λ front. front ++ later) c.in_ok-push_entry_line.ensures.ok ∙ append_assoc before (entry_line (c.in-Some.prefix.now, c.in-Some.entry.now)) later
          ∙ ap (λ its. before ++ flat_map entry_line its) (sym c.in-Some.ensures.steps) ∙ was.told;
      kept = keeps_more _ _ _ was.kept c.push_entry_line.ensures.kept;
    }

pub returns-clause-ok : goal.returns-clause-ok
returns-clause-ok c =
    let before = c.loop-prefix.out.items in
    sym (append-nil before) ∙ ap (λ its. before ++ flat_map entry_line its) (sym c.in-None.ensures.steps.0) ∙ c.loop-prefix.invariant.told

pub returns-clause-kept : goal.returns-clause-kept
returns-clause-kept c = c.loop-prefix.invariant.kept

pub returns-in_err-push_entry_line-clause-ok : goal.returns-in_err-push_entry_line-clause-ok
returns-in_err-push_entry_line-clause-ok c = IfOk-from_err c.from_residual.result _ c.from_residual.ensures.0

pub returns-in_err-push_entry_line-clause-kept : goal.returns-in_err-push_entry_line-clause-kept
returns-in_err-push_entry_line-clause-kept c = keeps_more _ _ _ c.loop-prefix.invariant.kept c.push_entry_line.ensures.kept
