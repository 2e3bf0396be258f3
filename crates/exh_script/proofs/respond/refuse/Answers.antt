use Rattle.std.proofs.Common.{◌≡◌, ◌++◌, refl, ap, ◌∙◌, subst}
use Rattle.std.proofs.lemmas.Result.{IfOk-from_err}
use Rattle.exh_line.specs.RefusalText.{refusal_text}
use Rattle.exh_stream.specs.Output.{Takes, TakesBeginning}
use Rattle.exh_stream.specs.OutputLemmas.{Takes-none, TakesBeginning-none, OnErr-from}
use Rattle.exh_script.specs.declared.serve_fault.ServeFault.TheVariants.{Write}
use Rattle.exh_script.proofs.ServedLemmas.{IfCut-from, IfCut-handed}
use Rattle.exh_script.proofs.respond.refuse.Goals as goal

pub returns-in_err-push_refusal-clause-err : goal.returns-in_err-push_refusal-clause-err
returns-in_err-push_refusal-clause-err g c = OnErr-from c.from_residual.result (TakesBeginning-none g.W.Write.contents c.args.output.now _)

pub returns-in_err-push_refusal-clause-front : goal.returns-in_err-push_refusal-clause-front
returns-in_err-push_refusal-clause-front g c = IfCut-from c.from_residual.result (Takes-none g.W.Write.contents c.args.output.now)

pub returns-in_err-push_refusal-clause-text : goal.returns-in_err-push_refusal-clause-text
returns-in_err-push_refusal-clause-text g c = IfOk-from_err c.from_residual.result _ c.from_residual.ensures.0

pub returns-in_err-push_refusal-clause-left : goal.returns-in_err-push_refusal-clause-left
returns-in_err-push_refusal-clause-left g c = IfOk-from_err c.from_residual.result _ c.from_residual.ensures.0

pub returns-in_err-push-clause-text : goal.returns-in_err-push-clause-text
returns-in_err-push-clause-text g c = IfOk-from_err c.from_residual-in_err-push.result _ c.from_residual-in_err-push.ensures.0

pub returns-in_err-push-clause-left : goal.returns-in_err-push-clause-left
returns-in_err-push-clause-left g c = IfOk-from_err c.from_residual-in_err-push.result _ c.from_residual-in_err-push.ensures.0

pub returns-clause-left : goal.returns-clause-left
returns-clause-left g c = refl

pub returns-clause-text : goal.returns-clause-text
returns-clause-text g c =
    let is : c.deref.result.now ≡ refusal_text c.args.refusal = c.deref.ensures.value ∙ c.in_ok-push_refusal.ensures.ok ∙ ap (λ front. front ++ refusal_text c.args.refusal) c.new-text.ensures.items in
    subst (Takes g.W.Write.contents c.args.output.now c.push.new.self) is c.in_ok-push.ensures.ok

pub returns-in_err-push-clause-err : goal.returns-in_err-push-clause-err
returns-in_err-push-clause-err g c =
    let is : c.deref.result.now ≡ refusal_text c.args.refusal = c.deref.ensures.value ∙ c.in_ok-push_refusal.ensures.ok ∙ ap (λ front. front ++ refusal_text c.args.refusal) c.new-text.ensures.items in
    OnErr-from c.from_residual-in_err-push.result (subst (TakesBeginning g.W.Write.contents c.args.output.now c.push.new.self) is c.in_err-push.ensures.err)

pub returns-in_err-push-clause-front : goal.returns-in_err-push-clause-front
returns-in_err-push-clause-front g c = IfCut-handed c.from_residual-in_err-push.result Write c.from_residual-in_err-push.ensures (λ differs. absurd (differs refl))

pub returns-clause-same_writer : goal.returns-clause-same_writer
returns-clause-same_writer g c = c.push.ensures.same_writer

pub returns-in_err-push-clause-same_writer : goal.returns-in_err-push-clause-same_writer
returns-in_err-push-clause-same_writer g c = c.push.ensures.same_writer

pub returns-in_err-push_refusal-clause-same_writer : goal.returns-in_err-push_refusal-clause-same_writer
returns-in_err-push_refusal-clause-same_writer g c = refl

pub returns-clause-err : goal.returns-clause-err
returns-clause-err g c = tt

pub returns-clause-front : goal.returns-clause-front
returns-clause-front g c = tt
