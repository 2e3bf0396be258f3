use Rattle.exh_text.specs.TextLines.{newline, parts_at}
use Rattle.exh_run.proofs.Inputs.{AreReadTo}
use Rattle.exh_run.proofs.input.keys_of_lines.Given as goal

-- the lines so far are keys
abbrev pub invariant-loop-line : goal.invariant-loop-line
invariant-loop-line l = AreReadTo l.is_hex (parts_at newline l.fn.text) l.keys.items l.line-iterator
