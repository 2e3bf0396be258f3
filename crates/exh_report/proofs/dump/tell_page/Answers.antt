use Rattle.std.proofs.Common.{◌++◌, ap, ◌∙◌}
use Rattle.exh_report.specs.Dump.{page_lines}
use Rattle.exh_report.specs.ReportLines.{lines_text}
use Rattle.exh_report.proofs.Told.{told_begun, told_none, told_whole}
use Rattle.exh_report.proofs.dump.tell_page.Goals as goal

pub returns-clause-told : goal.returns-clause-told
returns-clause-told g c =
    let is = c.deref.ensures.value ∙ c.in_ok-push_page.ensures ∙ ap (λ front. front ++ lines_text (page_lines c.args.ward (c.args.number, c.args.page.now))) c.clear.ensures.items in
    told_whole g.W.Write.contents c.args.output.now c.push.new.self (page_lines c.args.ward (c.args.number, c.args.page.now)) c.deref.result.now is c.in_ok-push.ensures.ok

pub returns-in_err-push-clause-told : goal.returns-in_err-push-clause-told
returns-in_err-push-clause-told g c =
    let is = c.deref.ensures.value ∙ c.in_ok-push_page.ensures ∙ ap (λ front. front ++ lines_text (page_lines c.args.ward (c.args.number, c.args.page.now))) c.clear.ensures.items in
    told_begun g.W.Write.contents c.args.output.now c.push.new.self (page_lines c.args.ward (c.args.number, c.args.page.now)) c.deref.result.now c.from_residual-in_err-push.result is c.from_residual-in_err-push.ensures c.in_err-push.ensures.err

pub returns-in_err-push_page-clause-told : goal.returns-in_err-push_page-clause-told
returns-in_err-push_page-clause-told g c = told_none g.W.Write.contents c.args.output.now (page_lines c.args.ward (c.args.number, c.args.page.now)) c.from_residual.result c.from_residual.ensures
