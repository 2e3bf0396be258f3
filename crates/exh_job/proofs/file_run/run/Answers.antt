use Rattle.std.proofs.Common.{subst, Err}
use Rattle.exh_stream.specs.Output.{held}
use Rattle.exh_report.specs.Report.{Reports}
use Rattle.exh_report.specs.declared.report_fault.ReportFault.TheVariants.{Memory}
use Rattle.exh_job.specs.FileRun.{lines_about}
use Rattle.exh_job.proofs.FileRunLemmas.{file_write_fault, last_line_cut, last_line_printed}
use Rattle.exh_job.proofs.file_run.run.Goals as goal

pub returns-in_err-print_out_of_memory-in-Err-Memory-clause-printed : goal.returns-in_err-print_out_of_memory-in-Err-Memory-clause-printed
returns-in_err-print_out_of_memory-in-Err-Memory-clause-printed g c =
    let old = held g.W.Write.contents c.args.output.now in
    let mid = held g.W.Write.contents c.tell.new.output in
    let new = held g.W.Write.contents c.print_out_of_memory.new.output in
    let known = g.R.Read.remaining c.args.reader.now in
    let told : Reports (lines_about c.args.topic) old mid known (Err Memory) = subst (λ fault. Reports (lines_about c.args.topic) old mid known (Err fault)) c.in-Err-Memory.field-0-is c.in-Err-Memory.ensures.told in
    file_write_fault (lines_about c.args.topic) known old new c.from_residual.result c.from_residual.ensures (last_line_cut (lines_about c.args.topic) known old mid new told c.in_err-print_out_of_memory-in-Err-Memory.ensures.err)

pub returns-in_ok-print_out_of_memory-in-Err-Memory-clause-printed : goal.returns-in_ok-print_out_of_memory-in-Err-Memory-clause-printed
returns-in_ok-print_out_of_memory-in-Err-Memory-clause-printed g c =
    let old = held g.W.Write.contents c.args.output.now in
    let mid = held g.W.Write.contents c.tell.new.output in
    let new = held g.W.Write.contents c.print_out_of_memory.new.output in
    let known = g.R.Read.remaining c.args.reader.now in
    let told : Reports (lines_about c.args.topic) old mid known (Err Memory) = subst (λ fault. Reports (lines_about c.args.topic) old mid known (Err fault)) c.in-Err-Memory.field-0-is c.in-Err-Memory.ensures.told in
    last_line_printed (lines_about c.args.topic) known old mid new told c.in_ok-print_out_of_memory-in-Err-Memory.ensures.ok
