use Rattle.std.proofs.Common.{arith}
use Rattle.exh_cells.proofs.InOrder.{ward_within, wards_few}
use Rattle.exh_cells.proofs.fit.ward_at.Goals as goal

pub returns-clause-within : goal.returns-clause-within
returns-clause-within c = omega (arith, ward_within c.args.ward_bits c.args.low c.requires)

pub returns-clause-few : goal.returns-clause-few
returns-clause-few c = omega (arith, wards_few c.args.ward_bits c.args.low c.requires)
