use Rattle.std.proofs.Common.{arith}
use Rattle.exh_change.proofs.Counts.{few_of}
use Rattle.exh_change.proofs.adding.counted_more.Goals as goal

pub overflow_add-page_counts : goal.overflow_add-page_counts
overflow_add-page_counts c = let few = few_of c.args.header.now c.requires.header c.args.ward c.requires.ward in omega (arith, few)
