use Rattle.std.proofs.Common.{◌≡◌, drop, map}
use Rattle.exh_request.specs.Line.{used_option}
use Rattle.exh_request.specs.Uses.{repeated, repeated_of}
use Rattle.exh_request.proofs.line.repeated_in.Given as goal

-- it is found among those that are left
abbrev pub invariant-loop-one : goal.invariant-loop-one
invariant-loop-one l = repeated (map used_option l.uses) ≡ repeated_of (map used_option l.uses) (map used_option (drop l.one-index l.uses))
