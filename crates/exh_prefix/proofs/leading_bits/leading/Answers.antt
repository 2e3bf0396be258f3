use Rattle.std.proofs.Common.{◌^◌, ap, arith}
use Rattle.exh_prefix.specs.LeadingLemmas.{leading-lt, leading-quotient}
use Rattle.exh_prefix.proofs.leading_bits.leading.Goals as goal

pub returns-then-count-eq0 : goal.returns-then-count-eq0
returns-then-count-eq0 c = omega (arith, leading-lt c.args.count c.args.pseudokey c.requires, ap (λ n. 2 ^ n) c.if-count-eq0.true)

pub returns : goal.returns
returns c = leading-quotient c.args.count c.args.pseudokey c.requires (omega arith)
