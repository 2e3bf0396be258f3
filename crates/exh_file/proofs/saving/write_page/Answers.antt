use Rattle.std.proofs.Common.{subst}
use Rattle.exh_stream.specs.Output.{Takes, TakesBeginning}
use Rattle.exh_stream.specs.OutputLemmas.{OnErr-from, TakesBeginning-none}
use Rattle.exh_format.specs.PageFile.{page_block}
use Rattle.exh_file.proofs.saving.write_page.Goals as goal

pub returns-in_err-read_block-clause-err : goal.returns-in_err-read_block-clause-err
returns-in_err-read_block-clause-err g c = OnErr-from c.from_residual.result (λ page is. TakesBeginning-none g.W.Write.contents c.args.output.now (page_block page))

pub returns-in_err-push-clause-err : goal.returns-in_err-push-clause-err
returns-in_err-push-clause-err g c =
    OnErr-from c.from_residual-in_err-push.result
    (λ page is. subst (TakesBeginning g.W.Write.contents c.args.output.now c.push.new.self) (c.in_ok-read_block.ensures.block page is).0 c.in_err-push.ensures.err)

pub returns-clause-ok : goal.returns-clause-ok
returns-clause-ok g c page is =
    let read = c.in_ok-read_block.ensures.block page is in
    (subst (Takes g.W.Write.contents c.args.output.now c.push.new.self) read.0 c.in_ok-push.ensures.ok, read.1)

pub returns-clause-same : goal.returns-clause-same
returns-clause-same g c = c.in_ok-read_block.ensures.same
