use Rattle.std.proofs.Common.{arith}
use Rattle.exh_prefix.specs.LeadingLemmas.{leading-lt}
use Rattle.exh_placing.proofs.Made.{wards_few}
use Rattle.exh_placing.proofs.cells.ward_at.Goals as goal

pub returns-clause-within : goal.returns-clause-within
returns-clause-within c = omega (arith, leading-lt c.args.ward_bits c.args.low (omega (arith, c.requires)))

pub returns-clause-few : goal.returns-clause-few
returns-clause-few c = omega (arith, wards_few c.args.ward_bits c.args.low c.requires)
