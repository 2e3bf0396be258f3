use Rattle.exh_compact.specs.Text.{ward_text}
use Rattle.exh_compact.proofs.Told.{IsTold}
use Rattle.exh_compact.proofs.text.push_wards.Given as goal

-- the wards so far are told
abbrev pub invariant-loop-number : goal.invariant-loop-number
invariant-loop-number l = IsTold ward_text l.wards l.fn.out.items l.out.items l.number
