use Rattle.std.proofs.Common.{arith}
use Rattle.exh_prefix.specs.PrefixLemmas.{low_of-left_child}
use Rattle.exh_prefix.proofs.laws.left_child_keeps_low.Goals as goal

pub returns : goal.returns
returns c parent short = low_of-left_child parent (omega arith)
