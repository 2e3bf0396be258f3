use Rattle.std.proofs.Common.{◌≡◌, length}
use Rattle.std.specs.Option.{option_copied}
use Rattle.exh_text.specs.TextLines.{newline, parts_left, without_empty}
use Rattle.exh_text.proofs.lines.LinesIterator.next.Given as goal

-- only empty parts went by
abbrev pub invariant-loop-self : goal.invariant-loop-self
invariant-loop-self l = without_empty (parts_left newline (option_copied l.self-inside.rest)) ≡ without_empty (parts_left newline (option_copied l.initial.self-inside.rest))

abbrev pub decreases-loop-self : goal.decreases-loop-self
decreases-loop-self l = length (parts_left newline (option_copied l.self-inside.rest))
