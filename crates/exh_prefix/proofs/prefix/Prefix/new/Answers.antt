use Rattle.std.proofs.Common.{refl, arith}
use Rattle.exh_prefix.specs.PrefixLemmas.{HasPrefix-from_shift, shift-HasPrefix}
use Rattle.exh_prefix.proofs.prefix.Prefix.new.Goals as goal
use Rattle.exh_prefix.proofs.prefix.Prefix.new.Goals.{then-len-gt-LIMIT-via-then-len-gt-LIMIT, then-len-gt-LIMIT-via-else-len-gt-LIMIT+then-bits-len-ne0}

pub returns-then-len-gt-LIMIT : goal.returns-then-len-gt-LIMIT
returns-then-len-gt-LIMIT c stored =
    elim c.then-len-gt-LIMIT.branch [
      | then-len-gt-LIMIT-via-then-len-gt-LIMIT w ↦ absurd (omega (arith, stored.0))
      | then-len-gt-LIMIT-via-else-len-gt-LIMIT+then-bits-len-ne0 w ↦ w.if-bits-len-ne0.true (shift-HasPrefix c.args.len c.args.bits (omega arith) stored)
    ]

pub invariant_of-result : goal.invariant_of-result
invariant_of-result c = (HasPrefix-from_shift c.args.len c.args.bits (omega arith) (omega arith) c.if-bits-len-ne0.false, omega arith)

pub returns : goal.returns
returns c = (HasPrefix-from_shift c.args.len c.args.bits (omega arith) (omega arith) c.if-bits-len-ne0.false, refl)
