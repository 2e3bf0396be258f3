use Rattle.std.proofs.Common.{[], ◌∷◌, sym, ap, ◌∙◌}
use Rattle.exh_text.specs.FileLine.{file_line_of}
use Rattle.exh_load.specs.Load.{at_end, beginning, load_after, refused}
use Rattle.exh_load.specs.LongLoad.{IsLongLoad, broken_off}
use Rattle.exh_load.proofs.LongLoads.{long_either, takes_load}
use Rattle.exh_load.proofs.TextLines.{some_taken}
use Rattle.exh_load.proofs.long_load.load_first.Goals as goal

pub returns-in-Ok-clause-loads : goal.returns-in-Ok-clause-loads
returns-in-Ok-clause-loads g c = λ known passed.
    c.load_pairs.ensures.loads known c.args.lines.now.line.items (ap file_line_of (sym c.line.ensures) ∙ sym c.in-Ok.ensures.line) passed

pub returns-in-Err-clause-loads : goal.returns-in-Err-clause-loads
returns-in-Err-clause-loads g c = λ known passed.
    let begin = beginning c.args.from in
    let line = c.args.lines.now.line.items in
    let wrong = c.in-Err.ensures.line ∙ ap file_line_of c.line.ensures in
    let is = long_either begin known (line ∷ []) (refused c.number-in-Err.result) (some_taken g.R.Read.remaining known c.args.lines.now (line ∷ []) passed c.requires.ends)
    (ap refused c.number-in-Err.ensures ∙ ap (λ r. load_after at_end begin r []) wrong) (ap refused c.number-in-Err.ensures ∙ ap (λ r. load_after (broken_off 41) begin r []) wrong) in
    takes_load g.W.Write.contents (IsLongLoad begin known) c.args.output.now c.refuse.new.output (refused c.number-in-Err.result) is c.refuse.result c.refuse.ensures.text c.refuse.ensures.left c.refuse.ensures.err c.refuse.ensures.front
