use Rattle.std.proofs.Common.{◌≡◌}
use Rattle.exh_file.specs.TextLines.{parts_at, space}
use Rattle.exh_system.specs.SizeLimit.{first_full}
use Rattle.exh_system.proofs.size_limit.first_word.Given as goal

-- the first word of the line is the first of the words that are left
abbrev pub invariant-loop-word : goal.invariant-loop-word
invariant-loop-word l = first_full (parts_at space l.fn.line) ≡ first_full l.word-iterator
