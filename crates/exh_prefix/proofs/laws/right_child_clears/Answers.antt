use Rattle.std.proofs.Common.{arith}
use Rattle.exh_prefix.specs.PrefixLemmas.{lowest_cleared-right_child}
use Rattle.exh_prefix.proofs.laws.right_child_clears.Goals as goal

pub returns : goal.returns
returns c parent short = lowest_cleared-right_child parent (omega arith)
