use Rattle.exh_prefix.specs.PrefixLemmas.{prefix_eq-exact}
use Rattle.exh_prefix.proofs.laws.equality_is_of_bits.Goals as goal

pub returns : goal.returns
returns c = prefix_eq-exact
