use Rattle.std.proofs.Common.{drop, map}
use Rattle.exh_request.specs.declared.line.Reading.TheVariants.{Between}
use Rattle.exh_request.specs.Line.{line_text}
use Rattle.exh_request.proofs.Lines.{IsReadTo}
use Rattle.exh_request.proofs.line.Line.read.Given as goal

-- the words so far are parted, and those behind them go on from there
abbrev pub invariant-loop-word : goal.invariant-loop-word
invariant-loop-word l = IsReadTo l.command (map (λ word. word.items) l.words) (map (λ word. word.items) (drop l.word-index l.words)) l.reading Between (line_text l.line)
