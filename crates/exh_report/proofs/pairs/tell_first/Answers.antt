use Rattle.std.proofs.Common.{◌++◌, [], ◌∷◌, ap, ◌∙◌}
use Rattle.exh_text.specs.Contents.{on_line}
use Rattle.exh_report.specs.PairsText.{first_words}
use Rattle.exh_report.proofs.Told.{one_line, told_begun, told_none, told_whole}
use Rattle.exh_report.proofs.pairs.tell_first.Goals as goal

pub returns-clause-told : goal.returns-clause-told
returns-clause-told g c =
    let is = c.deref.ensures.value ∙ c.in_ok-push_first.ensures ∙ ap (λ front. front ++ on_line (first_words c.args.settings.now)) c.clear.ensures.items ∙ one_line (first_words c.args.settings.now) in
    told_whole g.W.Write.contents c.args.output.now c.push.new.self (first_words c.args.settings.now ∷ []) c.deref.result.now is c.in_ok-push.ensures.ok

pub returns-in_err-push-clause-told : goal.returns-in_err-push-clause-told
returns-in_err-push-clause-told g c =
    let is = c.deref.ensures.value ∙ c.in_ok-push_first.ensures ∙ ap (λ front. front ++ on_line (first_words c.args.settings.now)) c.clear.ensures.items ∙ one_line (first_words c.args.settings.now) in
    told_begun g.W.Write.contents c.args.output.now c.push.new.self (first_words c.args.settings.now ∷ []) c.deref.result.now c.from_residual-in_err-push.result is c.from_residual-in_err-push.ensures c.in_err-push.ensures.err

pub returns-in_err-push_first-clause-told : goal.returns-in_err-push_first-clause-told
returns-in_err-push_first-clause-told g c = told_none g.W.Write.contents c.args.output.now (first_words c.args.settings.now ∷ []) c.from_residual.result c.from_residual.ensures
