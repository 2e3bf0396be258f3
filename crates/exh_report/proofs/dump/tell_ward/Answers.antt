use Rattle.std.proofs.Common.{◌++◌, [], ◌∷◌, ap, ◌∙◌}
use Rattle.exh_text.specs.Contents.{on_line}
use Rattle.exh_report.specs.Dump.{ward_words}
use Rattle.exh_report.proofs.Told.{one_line, told_begun, told_none, told_whole}
use Rattle.exh_report.proofs.dump.tell_ward.Goals as goal

pub returns-clause-told : goal.returns-clause-told
returns-clause-told g c =
    let is = c.deref.ensures.value ∙ c.in_ok-push_ward.ensures ∙ ap (λ front. front ++ on_line (ward_words c.args.ward c.args.count)) c.clear.ensures.items ∙ one_line (ward_words c.args.ward c.args.count) in
    told_whole g.W.Write.contents c.args.output.now c.push.new.self (ward_words c.args.ward c.args.count ∷ []) c.deref.result.now is c.in_ok-push.ensures.ok

pub returns-in_err-push-clause-told : goal.returns-in_err-push-clause-told
returns-in_err-push-clause-told g c =
    let is = c.deref.ensures.value ∙ c.in_ok-push_ward.ensures ∙ ap (λ front. front ++ on_line (ward_words c.args.ward c.args.count)) c.clear.ensures.items ∙ one_line (ward_words c.args.ward c.args.count) in
    told_begun g.W.Write.contents c.args.output.now c.push.new.self (ward_words c.args.ward c.args.count ∷ []) c.deref.result.now c.from_residual-in_err-push.result is c.from_residual-in_err-push.ensures c.in_err-push.ensures.err

pub returns-in_err-push_ward-clause-told : goal.returns-in_err-push_ward-clause-told
returns-in_err-push_ward-clause-told g c = told_none g.W.Write.contents c.args.output.now (ward_words c.args.ward c.args.count ∷ []) c.from_residual.result c.from_residual.ensures
