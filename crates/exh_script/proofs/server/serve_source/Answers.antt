use Rattle.std.proofs.Common.{◌≡◌, false, true}
use Rattle.exh_stream.specs.OutputLemmas.{OnErr-from}
use Rattle.exh_script.specs.OpenedScript.{beginning}
use Rattle.exh_script.proofs.ServedLemmas.{IfCut-map, finished_ok, finished_err, finished_front, cut_err}
use Rattle.exh_script.proofs.server.serve_source.Goals as goal

pub returns-clause-text : goal.returns-clause-text
returns-clause-text g c =
    finished_ok (beginning c.args.from) g.W.Write.contents c.args.output.now c.answer_source-served.new.output c.finish.new.self c.requires.empty _ c.in_ok-finish.ensures.ok c.answer_source-served.result _ c.answer_source-served.ensures.text

pub returns-clause-err : goal.returns-clause-err
returns-clause-err g c =
    finished_err (beginning c.args.from) g.W.Write.contents c.args.output.now c.answer_source-served.new.output c.finish.new.self c.requires.empty _ c.in_ok-finish.ensures.ok c.answer_source-served.result _ c.answer_source-served.ensures.front (λ is. let never : false ≡ true = (c.in_ok-finish.ensures.closed (c.answer_source-served.ensures.failed.0 is)).0 in cc)

pub returns-clause-front : goal.returns-clause-front
returns-clause-front g c =
    IfCut-map c.answer_source-served.result (finished_front (beginning c.args.from) g.W.Write.contents c.args.output.now c.answer_source-served.new.output c.finish.new.self c.requires.empty _ c.in_ok-finish.ensures.ok _) c.answer_source-served.ensures.front

pub returns-in_err-finish-clause-err : goal.returns-in_err-finish-clause-err
returns-in_err-finish-clause-err g c =
    OnErr-from c.from_residual.result (cut_err (beginning c.args.from) g.W.Write.contents c.args.output.now c.answer_source-served.new.output c.finish.new.self c.requires.empty _ c.in_err-finish.ensures.err c.answer_source-served.result _
    c.answer_source-served.ensures.text c.answer_source-served.ensures.front c.answer_source-served.ensures.err (λ is. (c.in_err-finish.ensures.closed (c.answer_source-served.ensures.failed.0 is)).1))
