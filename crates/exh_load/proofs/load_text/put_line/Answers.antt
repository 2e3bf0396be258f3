use Rattle.std.proofs.Common.{refl, subst}
use Rattle.std.proofs.lemmas.Result.{IfOk-from_err}
use Rattle.exh_stream.specs.Output.{Takes, TakesBeginning}
use Rattle.exh_stream.specs.OutputLemmas.{OnErr-from, TakesBeginning-none}
use Rattle.exh_load.specs.Loading.{loading_of}
use Rattle.std.proofs.lemmas.Bool.{false≢true}
use Rattle.exh_load.proofs.Exits.{no_fault, only_writer, other_fault, writer_fault}
use Rattle.exh_load.proofs.Lines.{IfErr-from, line_is}
use Rattle.exh_load.proofs.Counted.{handed}
use Rattle.exh_load.proofs.load_text.put_line.Goals as goal

pub returns-in_err-more-clause-same_writer : goal.returns-in_err-more-clause-same_writer
returns-in_err-more-clause-same_writer g c = refl

pub returns-in_err-more-clause-text : goal.returns-in_err-more-clause-text
returns-in_err-more-clause-text g c = IfOk-from_err c.from_residual.result _ c.from_residual.ensures.0

pub returns-in_err-more-clause-loaded : goal.returns-in_err-more-clause-loaded
returns-in_err-more-clause-loaded g c = IfOk-from_err c.from_residual.result _ c.from_residual.ensures.0

pub returns-in_err-more-clause-loading : goal.returns-in_err-more-clause-loading
returns-in_err-more-clause-loading g c = IfOk-from_err c.from_residual.result _ c.from_residual.ensures.0

pub returns-in_err-more-clause-records : goal.returns-in_err-more-clause-records
returns-in_err-more-clause-records g c = IfOk-from_err c.from_residual.result _ c.from_residual.ensures.0

pub returns-in_err-more-clause-few : goal.returns-in_err-more-clause-few
returns-in_err-more-clause-few g c = IfOk-from_err c.from_residual.result _ c.from_residual.ensures.0

pub returns-in_err-more-clause-err : goal.returns-in_err-more-clause-err
returns-in_err-more-clause-err g c = OnErr-from c.from_residual.result (TakesBeginning-none g.W.Write.contents c.args.output.now _)

pub returns-in_err-more-clause-front : goal.returns-in_err-more-clause-front
returns-in_err-more-clause-front g c = IfErr-from c.from_residual.result (λ fault _. refl)

pub returns-in_err-more-clause-failed : goal.returns-in_err-more-clause-failed
returns-in_err-more-clause-failed g c = other_fault c.from_residual.result c.in_err-more.field-0.0 _ c.from_residual.ensures c.in_err-more.ensures.fault c.requires.open

pub returns-in_err-push-clause-same_writer : goal.returns-in_err-push-clause-same_writer
returns-in_err-push-clause-same_writer g c = c.push.ensures.same_writer

pub returns-in_err-push-clause-text : goal.returns-in_err-push-clause-text
returns-in_err-push-clause-text g c = IfOk-from_err c.from_residual-in_err-push.result _ c.from_residual-in_err-push.ensures.0

pub returns-in_err-push-clause-loaded : goal.returns-in_err-push-clause-loaded
returns-in_err-push-clause-loaded g c = IfOk-from_err c.from_residual-in_err-push.result _ c.from_residual-in_err-push.ensures.0

pub returns-in_err-push-clause-loading : goal.returns-in_err-push-clause-loading
returns-in_err-push-clause-loading g c = IfOk-from_err c.from_residual-in_err-push.result _ c.from_residual-in_err-push.ensures.0

pub returns-in_err-push-clause-records : goal.returns-in_err-push-clause-records
returns-in_err-push-clause-records g c = IfOk-from_err c.from_residual-in_err-push.result _ c.from_residual-in_err-push.ensures.0

pub returns-in_err-push-clause-few : goal.returns-in_err-push-clause-few
returns-in_err-push-clause-few g c = IfOk-from_err c.from_residual-in_err-push.result _ c.from_residual-in_err-push.ensures.0

pub returns-in_err-push-clause-err : goal.returns-in_err-push-clause-err
returns-in_err-push-clause-err g c =
    let is = line_is (loading_of c.args.loader.now) c.args.line.now c.clear.new.self.items c.push_line.new.out.items c.deref.result.now c.clear.ensures.items c.in_ok-more.ensures.text c.deref.ensures.value in
    OnErr-from c.from_residual-in_err-push.result (subst (TakesBeginning g.W.Write.contents c.args.output.now c.push.new.self) is c.in_err-push.ensures.err)

pub returns-in_err-push-clause-front : goal.returns-in_err-push-clause-front
returns-in_err-push-clause-front g c = only_writer _ c.from_residual-in_err-push.result c.from_residual-in_err-push.ensures

pub returns-in_err-push-clause-failed : goal.returns-in_err-push-clause-failed
returns-in_err-push-clause-failed g c = writer_fault c.from_residual-in_err-push.result _ c.from_residual-in_err-push.ensures (c.in_err-push.ensures.failed.0 refl)

pub returns-clause-same_writer : goal.returns-clause-same_writer
returns-clause-same_writer g c = c.push.ensures.same_writer

pub returns-clause-text : goal.returns-clause-text
returns-clause-text g c =
    let is = line_is (loading_of c.args.loader.now) c.args.line.now c.clear.new.self.items c.push_line.new.out.items c.deref.result.now c.clear.ensures.items c.in_ok-more.ensures.text c.deref.ensures.value in
    subst (Takes g.W.Write.contents c.args.output.now c.push.new.self) is c.in_ok-push.ensures.ok

pub returns-clause-loaded : goal.returns-clause-loaded
returns-clause-loaded g c = c.in_ok-more.ensures.loaded

pub returns-clause-loading : goal.returns-clause-loading
returns-clause-loading g c = c.in_ok-more.ensures.loading

pub returns-clause-records : goal.returns-clause-records
returns-clause-records g c = c.in_ok-more.ensures.records

pub returns-clause-few : goal.returns-clause-few
returns-clause-few g c = c.in_ok-more.ensures.few

pub returns-clause-err : goal.returns-clause-err
returns-clause-err g c = tt

pub returns-clause-front : goal.returns-clause-front
returns-clause-front g c = tt

pub returns-clause-failed : goal.returns-clause-failed
returns-clause-failed g c = no_fault _ _ (λ closed. false≢true (c.in_ok-push.ensures.failed.1 closed))

pub returns-in_err-more-clause-counted : goal.returns-in_err-more-clause-counted
returns-in_err-more-clause-counted g c = handed c.in_err-more.field-0.0 _ c.from_residual.result c.in_err-more.ensures.counted c.from_residual.ensures

pub returns-clause-falls : goal.returns-clause-falls
returns-clause-falls g c = c.in_ok-more.ensures.falls
