use Rattle.std.proofs.Common.{◌≡◌, ◌++◌, map, take}
use Rattle.exh_prefix.specs.Prefix.{bit_digit}
use Rattle.exh_text.proofs.printing.push_prefix.Given as goal

-- the digits so far were added
abbrev pub invariant-loop-place : goal.invariant-loop-place
invariant-loop-place l = l.out.items ≡ l.fn.out.items ++ map bit_digit (take l.place l.prefix)
