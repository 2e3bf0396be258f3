use Rattle.std.proofs.Common.{arith}
use Rattle.exh_versions.proofs.Headers.{few_pages}
use Rattle.exh_versions.proofs.placed_reading.page_count.Goals as goal

pub total-requires : goal.total-requires
total-requires c = omega (arith, few_pages c.args.header.now c.requires)

pub returns : goal.returns
returns c = record { count = omega (arith, c.total.ensures); few = omega (arith, c.total.ensures, few_pages c.args.header.now c.requires) }
