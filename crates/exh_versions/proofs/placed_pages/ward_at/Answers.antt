use Rattle.std.proofs.Common.{arith}
use Rattle.exh_versions.proofs.Placed.{ward_within}
use Rattle.exh_versions.proofs.placed_pages.ward_at.Goals as goal

pub returns-clause-within : goal.returns-clause-within
returns-clause-within c = omega (arith, ward_within c.args.ward_bits c.args.low c.requires)
