use Rattle.std.proofs.lemmas.Result.{IfOk-from_err}
use Rattle.exh_text.specs.TextLemmas.{keeps_more}
use Rattle.exh_text.proofs.contents.push_entry.Goals as goal

pub returns-in_err-push_prefix-clause-ok : goal.returns-in_err-push_prefix-clause-ok
returns-in_err-push_prefix-clause-ok c = IfOk-from_err c.from_residual.result _ c.from_residual.ensures.0

pub returns-in_err-push_prefix-clause-kept : goal.returns-in_err-push_prefix-clause-kept
returns-in_err-push_prefix-clause-kept c = c.push_prefix.ensures.kept

pub returns-in_err-push_text-clause-ok : goal.returns-in_err-push_text-clause-ok
returns-in_err-push_text-clause-ok c =
    IfOk-from_err c.from_residual-in_err-push_text.result _ c.from_residual-in_err-push_text.ensures.0

pub returns-in_err-push_text-clause-kept : goal.returns-in_err-push_text-clause-kept
returns-in_err-push_text-clause-kept c = keeps_more _ _ _ c.push_prefix.ensures.kept c.push_text.ensures.kept

pub returns-in_err-push_number-clause-ok : goal.returns-in_err-push_number-clause-ok
returns-in_err-push_number-clause-ok c =
    IfOk-from_err c.from_residual-in_err-push_number.result _ c.from_residual-in_err-push_number.ensures.0

pub returns-in_err-push_number-clause-kept : goal.returns-in_err-push_number-clause-kept
returns-in_err-push_number-clause-kept c =
    keeps_more _ _ _ (keeps_more _ _ _ c.push_prefix.ensures.kept c.push_text.ensures.kept) c.push_number.ensures.kept

pub returns-clause-kept : goal.returns-clause-kept
returns-clause-kept c =
    keeps_more _ _ _ (keeps_more _ _ _ (keeps_more _ _ _ c.push_prefix.ensures.kept c.push_text.ensures.kept) c.push_number.ensures.kept) c.push_kind.ensures.kept
