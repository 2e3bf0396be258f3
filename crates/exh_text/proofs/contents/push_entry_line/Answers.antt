use Rattle.std.proofs.lemmas.Result.{IfOk-from_err}
use Rattle.exh_text.specs.TextLemmas.{keeps_more}
use Rattle.exh_text.proofs.contents.push_entry_line.Goals as goal

pub returns-in_err-push_text-clause-ok : goal.returns-in_err-push_text-clause-ok
returns-in_err-push_text-clause-ok c = IfOk-from_err c.from_residual.result _ c.from_residual.ensures.0

pub returns-in_err-push_text-clause-kept : goal.returns-in_err-push_text-clause-kept
returns-in_err-push_text-clause-kept c = c.push_text.ensures.kept

pub returns-in_err-push_entry-clause-ok : goal.returns-in_err-push_entry-clause-ok
returns-in_err-push_entry-clause-ok c =
    IfOk-from_err c.from_residual-in_err-push_entry.result _ c.from_residual-in_err-push_entry.ensures.0

pub returns-in_err-push_entry-clause-kept : goal.returns-in_err-push_entry-clause-kept
returns-in_err-push_entry-clause-kept c = keeps_more _ _ _ c.push_text.ensures.kept c.push_entry.ensures.kept

pub returns-clause-kept : goal.returns-clause-kept
returns-clause-kept c =
    keeps_more _ _ _ (keeps_more _ _ _ c.push_text.ensures.kept c.push_entry.ensures.kept) c.push_text-2.ensures.kept
