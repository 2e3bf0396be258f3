use Rattle.std.proofs.Common.{arith}
use Rattle.exh_request.proofs.Places.{one_place}
use Rattle.exh_request.proofs.asking.put.Goals as goal

pub returns-in-len1-clause-wrong : goal.returns-in-len1-clause-wrong
returns-in-len1-clause-wrong c = one_place c.args.options.now c.args.places.now (omega (arith, c.in-len1.len_at_least)) (omega (arith, c.in-len1.len_below))
