use Rattle.std.proofs.Common.{refl}
use Rattle.std.specs.Io.KnownBytes.{Appends}
use Rattle.exh_stream.specs.Output.{AppendsBeginning, held, writer_failed}
use Rattle.exh_stream.specs.OutputLemmas.{Takes-cut, Takes-finished, TakesBeginning-left}
use Rattle.exh_job.proofs.LastLineLemmas.{OnErr-weaker, OnOk-weaker, cut_by, printed_by}
use Rattle.exh_job.proofs.last_line.print_line.Goals as goal

pub returns-clause-ok : goal.returns-clause-ok
returns-clause-ok g c =
    OnOk-weaker c.finish.result (λ gone. Takes-finished g.W.Write.contents c.args.output.now c.push.new.self c.finish.new.self c.requires.empty _ c.in_ok-push.ensures.ok gone) c.finish.ensures.ok

pub returns-clause-err : goal.returns-clause-err
returns-clause-err g c =
    OnErr-weaker c.finish.result (λ gone. Takes-cut g.W.Write.contents c.args.output.now c.push.new.self c.finish.new.self c.requires.empty _ c.in_ok-push.ensures.ok gone) c.finish.ensures.err

pub returns-clause-printed : goal.returns-clause-printed
returns-clause-printed g c =
    let old = held g.W.Write.contents c.args.output.now in
    let new = held g.W.Write.contents c.finish.new.self in
    printed_by (Appends old new c.args.line.now) (AppendsBeginning old new c.args.line.now) c.finish.result (writer_failed c.finish.new.self)
    (OnOk-weaker c.finish.result (λ gone. Takes-finished g.W.Write.contents c.args.output.now c.push.new.self c.finish.new.self c.requires.empty _ c.in_ok-push.ensures.ok gone) c.finish.ensures.ok)
    (OnErr-weaker c.finish.result (λ gone. Takes-cut g.W.Write.contents c.args.output.now c.push.new.self c.finish.new.self c.requires.empty _ c.in_ok-push.ensures.ok gone) c.finish.ensures.err)
    c.finish.ensures.failed

pub returns-in_err-push-clause-printed : goal.returns-in_err-push-clause-printed
returns-in_err-push-clause-printed g c =
    let old = held g.W.Write.contents c.args.output.now in
    let new = held g.W.Write.contents c.push.new.self in
    cut_by (Appends old new c.args.line.now) (AppendsBeginning old new c.args.line.now) (writer_failed c.push.new.self) (c.in_err-push.ensures.failed.0 refl)
    (TakesBeginning-left g.W.Write.contents c.args.output.now c.push.new.self c.push.new.self c.requires.empty _ c.in_err-push.ensures.err refl)
