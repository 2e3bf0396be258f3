use Rattle.std.proofs.Common.{arith}
use Rattle.exh_format.specs.HeaderLemmas.{few_wards}
use Rattle.exh_format.proofs.reading.wards_of.Goals as goal

pub overflow_shl-result : goal.overflow_shl-result
overflow_shl-result c = omega (arith, few_wards c.args.header.now.settings.ward_bits c.requires)
