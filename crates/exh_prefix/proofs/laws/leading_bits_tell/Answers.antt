use Rattle.std.proofs.Common.{arith}
use Rattle.exh_prefix.specs.LeadingLemmas.{leading-of_begun, begins-from_leading}
use Rattle.exh_prefix.proofs.laws.leading_bits_tell.Goals as goal

pub returns : goal.returns
returns c prefix pseudokey short = (leading-of_begun prefix pseudokey, begins-from_leading prefix pseudokey (omega arith))
