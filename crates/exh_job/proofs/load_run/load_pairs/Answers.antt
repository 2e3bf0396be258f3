use Rattle.std.proofs.Common.{rules, subst}
use Rattle.std.specs.Io.KnownBytes.{Appends}
use Rattle.exh_stream.specs.Output.{AppendsBeginning}
use Rattle.exh_load.specs.Load.{IsLoadOf, PrintsFront, beginning, load_of}
use Rattle.exh_job.specs.LoadRun.{LoadPrints}
use Rattle.exh_job.specs.LastLine.{memory_line}
use Rattle.exh_job.proofs.LoadLemmas.{load_line_cut, load_line_out, load_write_fault, memory_writes}
use Rattle.exh_job.proofs.load_run.load_pairs.Goals as goal

pub returns-in_err-print_out_of_memory-in-Err-Memory : goal.returns-in_err-print_out_of_memory-in-Err-Memory
returns-in_err-print_out_of_memory-in-Err-Memory g c =
    let old = g.W.Write.contents c.args.writer.now in
    let mid = g.W.Write.contents c.load.new.writer in
    let new = g.W.Write.contents c.print_out_of_memory.new.output.writer.now in
    let known = g.R.Read.remaining c.args.reader.now in
    let Is = IsLoadOf (load_of (beginning c.args.from) c.args.limit) known in
    let front : PrintsFront Is (Appends old mid) = c.in-Err-Memory.ensures.memory (memory_writes _ c.in-Err-Memory.field-0-is) in
    let line : AppendsBeginning mid new memory_line = subst (λ writer. AppendsBeginning (g.W.Write.contents writer) new memory_line) c.new.ensures.writes_to.1 c.in_err-print_out_of_memory-in-Err-Memory.ensures.err in
    let printed : LoadPrints Is old new c.from_residual.result = load_write_fault Is old new c.from_residual.result c.from_residual.ensures (load_line_cut Is old mid new front line) in
    search rules

pub returns-in_ok-print_out_of_memory-in-Err-Memory : goal.returns-in_ok-print_out_of_memory-in-Err-Memory
returns-in_ok-print_out_of_memory-in-Err-Memory g c =
    let old = g.W.Write.contents c.args.writer.now in
    let mid = g.W.Write.contents c.load.new.writer in
    let new = g.W.Write.contents c.print_out_of_memory.new.output.writer.now in
    let known = g.R.Read.remaining c.args.reader.now in
    let Is = IsLoadOf (load_of (beginning c.args.from) c.args.limit) known in
    let front : PrintsFront Is (Appends old mid) = c.in-Err-Memory.ensures.memory (memory_writes _ c.in-Err-Memory.field-0-is) in
    let line : Appends mid new memory_line = subst (λ writer. Appends (g.W.Write.contents writer) new memory_line) c.new.ensures.writes_to.1 c.in_ok-print_out_of_memory-in-Err-Memory.ensures.ok in
    let printed = load_line_out Is old mid new front line in
    search rules
