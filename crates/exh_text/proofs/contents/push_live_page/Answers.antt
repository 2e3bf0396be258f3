use Rattle.std.proofs.lemmas.Result.{IfOk-from_err}
use Rattle.exh_text.specs.TextLemmas.{keeps_more}
use Rattle.exh_text.proofs.contents.push_live_page.Goals as goal

pub returns-in_err-push_page-clause-ok : goal.returns-in_err-push_page-clause-ok
returns-in_err-push_page-clause-ok c = IfOk-from_err c.from_residual.result _ c.from_residual.ensures.0

pub returns-in_err-push_page-clause-kept : goal.returns-in_err-push_page-clause-kept
returns-in_err-push_page-clause-kept c = c.push_page.ensures.kept

pub returns-in_err-push_live-clause-ok : goal.returns-in_err-push_live-clause-ok
returns-in_err-push_live-clause-ok c =
    IfOk-from_err c.from_residual-in_err-push_live.result _ c.from_residual-in_err-push_live.ensures.0

pub returns-in_err-push_live-clause-kept : goal.returns-in_err-push_live-clause-kept
returns-in_err-push_live-clause-kept c = keeps_more _ _ _ c.push_page.ensures.kept c.push_live.ensures.kept

pub returns-clause-kept : goal.returns-clause-kept
returns-clause-kept c =
    keeps_more _ _ _ (keeps_more _ _ _ c.push_page.ensures.kept c.push_live.ensures.kept) c.push_text.ensures.kept
