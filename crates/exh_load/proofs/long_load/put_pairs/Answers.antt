use Rattle.std.proofs.Common.{◌≡◌, Ok, Err, subst, ap, ◌∙◌}
use Rattle.exh_load.specs.LineSource.{PutsLines, break_number}
use Rattle.exh_load.specs.Loading.{loading_in, loading_of}
use Rattle.exh_load.proofs.LongLoads.{broken_takes, ended_takes, stopped_takes, unended_takes}
use Rattle.exh_load.proofs.long_load.put_pairs.Goals as goal

pub returns-in_err-records-clause-loads : goal.returns-in_err-records-clause-loads
returns-in_err-records-clause-loads g c = λ known begin line settings read begun passed.
    stopped_takes g.R.Read.remaining g.W.Write.contents c.args.lines.now c.args.output.now c.put_lines.new.output known begin line settings (loading_of c.args.loader) read begun passed c.from_residual.result c.in_err-records.field-0.0 c.from_residual.ensures c.in_err-records.ensures.stopped

pub returns-in_err-print_number-in-Ok-clause-loads : goal.returns-in_err-print_number-in-Ok-clause-loads
returns-in_err-print_number-in-Ok-clause-loads g c = λ known begin line settings read begun passed.
    let put = subst (PutsLines g.R.Read.remaining g.W.Write.contents c.args.lines.now c.args.output.now c.put_lines.new.output (loading_of c.args.loader) (loading_of c.put_lines.new.loader)) c.in-Ok.is c.in_ok-records.ensures.put in
    unended_takes g.R.Read.remaining g.W.Write.contents c.args.lines.now c.args.output.now c.print_number.new.output known begin line settings (loading_of c.args.loader) read begun passed c.put_lines.new.output (loading_of c.put_lines.new.loader) c.in-Ok.records put
    c.from_residual-in_err-print_number-in-Ok.result c.in_err-print_number-in-Ok.field-0.0 c.from_residual-in_err-print_number-in-Ok.ensures c.in_err-print_number-in-Ok.ensures.err c.in_err-print_number-in-Ok.ensures.front

pub returns-in_ok-print_number-in-Ok-clause-loads : goal.returns-in_ok-print_number-in-Ok-clause-loads
returns-in_ok-print_number-in-Ok-clause-loads g c = λ known begin line settings read begun passed.
    let put = subst (PutsLines g.R.Read.remaining g.W.Write.contents c.args.lines.now c.args.output.now c.put_lines.new.output (loading_of c.args.loader) (loading_of c.put_lines.new.loader)) c.in-Ok.is c.in_ok-records.ensures.put in
    ended_takes g.R.Read.remaining g.W.Write.contents c.args.lines.now c.args.output.now c.print_number.new.output known begin line settings (loading_of c.args.loader) read begun passed c.put_lines.new.output (loading_of c.put_lines.new.loader) c.in-Ok.records put c.in_ok-print_number-in-Ok.ensures.text
    c.into_opened.result (ap loading_in c.into_opened.ensures)

pub returns-in-Err-clause-loads : goal.returns-in-Err-clause-loads
returns-in-Err-clause-loads g c = λ known begin line settings read begun passed.
    let put = subst (PutsLines g.R.Read.remaining g.W.Write.contents c.args.lines.now c.args.output.now c.put_lines.new.output (loading_of c.args.loader) (loading_of c.put_lines.new.loader)) c.in-Err.is c.in_ok-records.ensures.put in
    broken_takes g.R.Read.remaining g.W.Write.contents c.args.lines.now c.args.output.now c.break_off.new.output known begin line settings (loading_of c.args.loader) read begun passed c.put_lines.new.output c.in-Err.fault put c.break_off.result c.break_off.ensures.text c.break_off.ensures.left
    c.break_off.ensures.err c.break_off.ensures.front

pub returns-in_err-records-clause-same_reader : goal.returns-in_err-records-clause-same_reader
returns-in_err-records-clause-same_reader g c = c.put_lines.ensures.same_reader

pub returns-in_err-records-clause-same_writer : goal.returns-in_err-records-clause-same_writer
returns-in_err-records-clause-same_writer g c = c.put_lines.ensures.same_writer

pub returns-in_err-print_number-in-Ok-clause-same_reader : goal.returns-in_err-print_number-in-Ok-clause-same_reader
returns-in_err-print_number-in-Ok-clause-same_reader g c = c.put_lines.ensures.same_reader

pub returns-in_err-print_number-in-Ok-clause-same_writer : goal.returns-in_err-print_number-in-Ok-clause-same_writer
returns-in_err-print_number-in-Ok-clause-same_writer g c = c.print_number.ensures.same_writer ∙ c.put_lines.ensures.same_writer

pub returns-in_ok-print_number-in-Ok-clause-same_reader : goal.returns-in_ok-print_number-in-Ok-clause-same_reader
returns-in_ok-print_number-in-Ok-clause-same_reader g c = c.put_lines.ensures.same_reader

pub returns-in_ok-print_number-in-Ok-clause-same_writer : goal.returns-in_ok-print_number-in-Ok-clause-same_writer
returns-in_ok-print_number-in-Ok-clause-same_writer g c = c.print_number.ensures.same_writer ∙ c.put_lines.ensures.same_writer

pub returns-in-Err-clause-same_reader : goal.returns-in-Err-clause-same_reader
returns-in-Err-clause-same_reader g c = c.put_lines.ensures.same_reader

pub returns-in-Err-clause-same_writer : goal.returns-in-Err-clause-same_writer
returns-in-Err-clause-same_writer g c = c.break_off.ensures.same_writer ∙ c.put_lines.ensures.same_writer

pub returns-in-Err-clause-failed : goal.returns-in-Err-clause-failed
returns-in-Err-clause-failed g c = c.break_off.ensures.failed
