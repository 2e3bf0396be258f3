use Rattle.std.proofs.Common.{map, take}
use Rattle.std.specs.Fmt.{HasWritten, IsPlainFormatter}
use Rattle.exh_prefix.specs.Prefix.{bit_digit}
use Rattle.exh_prefix.proofs.prefix.PrefixDisplay.fmt.Given as goal

abbrev pub invariant-loop-place : goal.invariant-loop-place
invariant-loop-place g l = IsPlainFormatter l.initial.f → HasWritten g.W.Write.write_str_gives l.initial.f (map bit_digit (take l.place l.self)) l.f
