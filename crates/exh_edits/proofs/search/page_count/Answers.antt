use Rattle.std.proofs.Common.{arith}
use Rattle.exh_edits.proofs.Counts.{few_pages}
use Rattle.exh_edits.proofs.search.page_count.Goals as goal

pub total-requires : goal.total-requires
total-requires c = omega (arith, few_pages c.args.header.now c.requires)

pub returns-clause-few : goal.returns-clause-few
returns-clause-few c = omega (arith, few_pages c.args.header.now c.requires, c.total.ensures)
