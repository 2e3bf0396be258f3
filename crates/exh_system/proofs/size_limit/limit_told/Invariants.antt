use Rattle.std.proofs.Common.{◌≡◌, codes}
use Rattle.exh_file.specs.TextLines.{newline, parts_at}
use Rattle.exh_system.specs.SizeLimit.{number_behind}
use Rattle.exh_system.proofs.size_limit.limit_told.Given as goal

-- what the text tells is what the lines tell that are left
abbrev pub invariant-loop-line : goal.invariant-loop-line
invariant-loop-line l = number_behind (codes "Max file size ") (parts_at newline l.fn.text) ≡ number_behind (codes "Max file size ") l.line-iterator
