use Rattle.std.proofs.Common.{◌^◌, ◌≤◌, arith}
use Rattle.std.proofs.Math.Pow.{pow_mono}
use Rattle.exh_prefix.specs.LeadingLemmas.{leading-lt}
use Rattle.exh_prefix.specs.declared.prefix.TheConstants.{WARD_BITS_LIMIT}
use Rattle.exh_prefix.proofs.leading_bits.ward_number.Goals as goal

pub overflow_cast-result : goal.overflow_cast-result
overflow_cast-result c =
    let most : 2 ^ c.args.ward_bits ≤ 2 ^ WARD_BITS_LIMIT = pow_mono c.requires in
    omega (arith, leading-lt c.args.ward_bits c.args.pseudokey (omega (arith, c.requires)), most, c.leading.ensures)
