use Rattle.std.proofs.Common.{refl, subst}
use Rattle.std.proofs.lemmas.Result.{IfOk-from_err}
use Rattle.exh_stream.specs.OutputLemmas.{OnErr-from}
use Rattle.exh_stream.specs.Output.{Takes, TakesBeginning}
use Rattle.exh_load.specs.Load.{TakesFront, refused}
use Rattle.exh_load.proofs.Exits.{no_fault, not_closed, same_fault}
use Rattle.exh_load.proofs.Pairs.{handed_on}
use Rattle.exh_load.proofs.number_line.refuse.Goals as goal

pub returns-in_err-print_number-clause-same_writer : goal.returns-in_err-print_number-clause-same_writer
returns-in_err-print_number-clause-same_writer g c = c.print_number.ensures.same_writer

pub returns-in_err-print_number-clause-text : goal.returns-in_err-print_number-clause-text
returns-in_err-print_number-clause-text g c = IfOk-from_err c.from_residual.result _ c.from_residual.ensures.0

pub returns-in_err-print_number-clause-left : goal.returns-in_err-print_number-clause-left
returns-in_err-print_number-clause-left g c = IfOk-from_err c.from_residual.result _ c.from_residual.ensures.0

pub returns-in_err-print_number-clause-err : goal.returns-in_err-print_number-clause-err
returns-in_err-print_number-clause-err g c = OnErr-from c.from_residual.result (subst (λ n. TakesBeginning g.W.Write.contents c.args.output.now c.print_number.new.output (refused n).printed) c.from.ensures c.in_err-print_number.ensures.err)

pub returns-in_err-print_number-clause-front : goal.returns-in_err-print_number-clause-front
returns-in_err-print_number-clause-front g c = handed_on c.from_residual.result c.in_err-print_number.field-0.0 c.from_residual.ensures (λ differs. subst (λ n. TakesFront g.W.Write.contents c.args.output.now c.print_number.new.output (refused n).printed) c.from.ensures (c.in_err-print_number.ensures.front differs))

pub returns-in_err-print_number-clause-failed : goal.returns-in_err-print_number-clause-failed
returns-in_err-print_number-clause-failed g c = same_fault c.from_residual.result c.in_err-print_number.field-0.0 _ c.from_residual.ensures c.in_err-print_number.ensures.failed

pub returns-clause-same_writer : goal.returns-clause-same_writer
returns-clause-same_writer g c = c.print_number.ensures.same_writer

pub returns-clause-text : goal.returns-clause-text
returns-clause-text g c = subst (λ n. Takes g.W.Write.contents c.args.output.now c.print_number.new.output (refused n).printed) c.from.ensures c.in_ok-print_number.ensures.text

pub returns-clause-left : goal.returns-clause-left
returns-clause-left g c = refl

pub returns-clause-err : goal.returns-clause-err
returns-clause-err g c = tt

pub returns-clause-front : goal.returns-clause-front
returns-clause-front g c = tt

pub returns-clause-failed : goal.returns-clause-failed
returns-clause-failed g c = no_fault _ _ (not_closed _ _ _ c.in_ok-print_number.ensures.failed)
