use Rattle.std.proofs.Common.{arith}
use Rattle.exh_direct.proofs.Tables.{few_pages}
use Rattle.exh_direct.proofs.reading.table_place.Goals as goal

pub total-requires : goal.total-requires
total-requires c = omega (arith, few_pages c.args.header.now c.requires)

pub overflow_add-result : goal.overflow_add-result
overflow_add-result c = omega (arith, few_pages c.args.header.now c.requires, c.total.ensures)

pub returns-clause-few : goal.returns-clause-few
returns-clause-few c = omega (arith, few_pages c.args.header.now c.requires, c.total.ensures)
