use Rattle.std.proofs.Common.{◌++◌, ap, ◌∙◌}
use Rattle.exh_format.specs.FileParts.{file_of}
use Rattle.exh_report.specs.Check.{check_lines}
use Rattle.exh_report.specs.ReportLines.{lines_text}
use Rattle.exh_report.proofs.Told.{told_begun, told_none, told_whole}
use Rattle.exh_report.proofs.check.check_parts.Goals as goal

pub returns-clause-told : goal.returns-clause-told
returns-clause-told g c =
    let is = c.deref.ensures.value ∙ c.in_ok-push_check.ensures ∙ ap (λ front. front ++ lines_text (check_lines (file_of c.args.parts.now))) c.new-text.ensures.items in
    told_whole g.W.Write.contents c.args.output.now c.push.new.self (check_lines (file_of c.args.parts.now)) c.deref.result.now is c.in_ok-push.ensures.ok

pub returns-in_err-push-clause-told : goal.returns-in_err-push-clause-told
returns-in_err-push-clause-told g c =
    let is = c.deref.ensures.value ∙ c.in_ok-push_check.ensures ∙ ap (λ front. front ++ lines_text (check_lines (file_of c.args.parts.now))) c.new-text.ensures.items in
    told_begun g.W.Write.contents c.args.output.now c.push.new.self (check_lines (file_of c.args.parts.now)) c.deref.result.now c.from_residual-in_err-push.result is c.from_residual-in_err-push.ensures c.in_err-push.ensures.err

pub returns-in_err-push_check-clause-told : goal.returns-in_err-push_check-clause-told
returns-in_err-push_check-clause-told g c = told_none g.W.Write.contents c.args.output.now (check_lines (file_of c.args.parts.now)) c.from_residual.result c.from_residual.ensures
