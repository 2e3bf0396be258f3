use Rattle.std.proofs.Common.{arith}
use Rattle.exh_prefix.specs.PrefixLemmas.{begins_low, begins_from_low}
use Rattle.exh_prefix.proofs.laws.begins_its_range.Goals as goal

pub returns : goal.returns
returns c prefix pseudokey short small = (begins_low prefix pseudokey (omega arith) small, λ range. begins_from_low prefix pseudokey (omega arith) range.0 range.1)
