use Rattle.std.proofs.Common.{◌≡◌}
use Rattle.exh_text.specs.TextLines.{parts_at, space}
use Rattle.exh_text.specs.WrongWord.{first_wrong}
use Rattle.exh_text.proofs.wrong_word.wrong_word.Given as goal

-- what is wrong in the line is what is wrong in the rest of it
abbrev pub invariant-loop-word : goal.invariant-loop-word
invariant-loop-word l = first_wrong l.fn.fault l.fn.first (parts_at space l.fn.line) ≡ first_wrong l.fn.fault l.next l.word-iterator
