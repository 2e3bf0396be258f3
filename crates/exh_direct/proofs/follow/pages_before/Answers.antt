use Rattle.std.proofs.Common.{arith}
use Rattle.exh_direct.proofs.Tables.{few_before}
use Rattle.exh_direct.proofs.follow.pages_before.Goals as goal

pub total-requires : goal.total-requires
total-requires c = omega (arith, few_before c.args.header.now c.args.ward c.requires.header)

pub overflow_add-result : goal.overflow_add-result
overflow_add-result c = omega (arith, few_before c.args.header.now c.args.ward c.requires.header, c.total.ensures)

pub returns-clause-few : goal.returns-clause-few
returns-clause-few c = omega (arith, few_before c.args.header.now c.args.ward c.requires.header, c.total.ensures)
