use Rattle.std.proofs.Common.{◌<◌, ◌^◌, arith}
use Rattle.std.proofs.lemmas.Nat.{pow_below}
use Rattle.exh_format.proofs.header.wards_of.Goals as goal

pub returns-in_default-clause-wards : goal.returns-in_default-clause-wards
returns-in_default-clause-wards c few =
    let many : 4 < c.args.ward_bits = omega arith in
    let more : 2 ^ 4 < 2 ^ c.args.ward_bits = pow_below 4 c.args.ward_bits many in
    omega (arith, more, few)
