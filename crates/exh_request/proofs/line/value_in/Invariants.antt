use Rattle.std.proofs.Common.{◌≡◌, drop, map}
use Rattle.exh_request.specs.Line.{used_option}
use Rattle.exh_request.specs.Uses.{value_given}
use Rattle.exh_request.proofs.line.value_in.Given as goal

-- it is found among those that are left
abbrev pub invariant-loop-one : goal.invariant-loop-one
invariant-loop-one l = value_given l.option (map used_option l.uses) ≡ value_given l.option (map used_option (drop l.one-index l.uses))
