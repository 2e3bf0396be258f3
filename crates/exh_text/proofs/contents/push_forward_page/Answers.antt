use Rattle.std.proofs.Common.{append_assoc, arith}
use Rattle.std.proofs.lemmas.Grind.{common_steps}
use Rattle.std.proofs.lemmas.Result.{IfOk-from_err}
use Rattle.exh_text.specs.TextLemmas.{keeps_more}
use Rattle.exh_text.proofs.contents.push_forward_page.Goals as goal

pub returns-clause-ok : goal.returns-clause-ok
returns-clause-ok c = grind (arith, common_steps, append_assoc)

pub returns-in_err-push_page-clause-ok : goal.returns-in_err-push_page-clause-ok
returns-in_err-push_page-clause-ok c = IfOk-from_err c.from_residual.result _ c.from_residual.ensures.0

pub returns-in_err-push_page-clause-kept : goal.returns-in_err-push_page-clause-kept
returns-in_err-push_page-clause-kept c = c.push_page.ensures.kept

pub returns-in_err-push_text-clause-ok : goal.returns-in_err-push_text-clause-ok
returns-in_err-push_text-clause-ok c =
    IfOk-from_err c.from_residual-in_err-push_text.result _ c.from_residual-in_err-push_text.ensures.0

pub returns-in_err-push_text-clause-kept : goal.returns-in_err-push_text-clause-kept
returns-in_err-push_text-clause-kept c = keeps_more _ _ _ c.push_page.ensures.kept c.push_text.ensures.kept

pub returns-in_err-push_place-clause-ok : goal.returns-in_err-push_place-clause-ok
returns-in_err-push_place-clause-ok c =
    IfOk-from_err c.from_residual-in_err-push_place.result _ c.from_residual-in_err-push_place.ensures.0

pub returns-in_err-push_place-clause-kept : goal.returns-in_err-push_place-clause-kept
returns-in_err-push_place-clause-kept c =
    keeps_more _ _ _ (keeps_more _ _ _ c.push_page.ensures.kept c.push_text.ensures.kept) c.push_place.ensures.kept

pub returns-clause-kept : goal.returns-clause-kept
returns-clause-kept c =
    keeps_more _ _ _ (keeps_more _ _ _ (keeps_more _ _ _ c.push_page.ensures.kept c.push_text.ensures.kept) c.push_place.ensures.kept) c.push_text-2.ensures.kept
