use Rattle.std.proofs.Common.{rules, subst}
use Rattle.std.specs.Io.KnownBytes.{Appends}
use Rattle.exh_stream.specs.Output.{AppendsBeginning}
use Rattle.exh_script.specs.OpenedScript.{beginning}
use Rattle.exh_everyday.specs.LastLine.{memory_line}
use Rattle.exh_cli.specs.ScriptRun.{RunPrints}
use Rattle.exh_cli.proofs.RunLemmas.{line_cut, line_printed, memory_differs, write_fault}
use Rattle.exh_cli.proofs.serve_script.serve_script.Goals as goal

pub returns-in_err-print_out_of_memory-in-Err-Memory : goal.returns-in_err-print_out_of_memory-in-Err-Memory
returns-in_err-print_out_of_memory-in-Err-Memory g c =
    let begin = beginning c.args.from in
    let line : AppendsBeginning (g.W.Write.contents c.serve_over.new.writer) (g.W.Write.contents c.print_out_of_memory.new.output.writer.now) memory_line
    = subst (λ writer. AppendsBeginning (g.W.Write.contents writer) (g.W.Write.contents c.print_out_of_memory.new.output.writer.now) memory_line) c.new.ensures.writes_to.1
    c.in_err-print_out_of_memory-in-Err-Memory.ensures.err in
    let printed : RunPrints begin (g.W.Write.contents c.args.writer.now) (g.W.Write.contents c.print_out_of_memory.new.output.writer.now) (g.R.Read.remaining c.args.reader.now) c.from_residual.result
    = write_fault begin _ _ _ c.from_residual.result c.from_residual.ensures
    (line_cut begin (g.W.Write.contents c.args.writer.now) (g.W.Write.contents c.serve_over.new.writer) _ _ (c.in-Err-Memory.ensures.front (memory_differs _ c.in-Err-Memory.field-0-is)) line) in
    search rules

pub returns-in_ok-print_out_of_memory-in-Err-Memory : goal.returns-in_ok-print_out_of_memory-in-Err-Memory
returns-in_ok-print_out_of_memory-in-Err-Memory g c =
    let begin = beginning c.args.from in
    let old = g.W.Write.contents c.args.writer.now in
    let mid = g.W.Write.contents c.serve_over.new.writer in
    let new = g.W.Write.contents c.print_out_of_memory.new.output.writer.now in
    let line : Appends mid new memory_line = subst (λ writer. Appends (g.W.Write.contents writer) new memory_line) c.new.ensures.writes_to.1 c.in_ok-print_out_of_memory-in-Err-Memory.ensures.ok in
    let printed = line_printed begin old mid new (g.R.Read.remaining c.args.reader.now) (c.in-Err-Memory.ensures.front (memory_differs _ c.in-Err-Memory.field-0-is)) line in
    search rules
