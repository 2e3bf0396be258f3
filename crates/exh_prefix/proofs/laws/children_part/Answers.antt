use Rattle.std.proofs.Common.{arith}
use Rattle.exh_prefix.specs.PrefixLemmas.{child_of_begun, one_child_begins, parent_begins}
use Rattle.exh_prefix.proofs.laws.children_part.Goals as goal

pub returns : goal.returns
returns c parent pseudokey short = record {
  one = child_of_begun parent pseudokey (omega arith);
  not_both = one_child_begins parent pseudokey;
  none_else = parent_begins parent pseudokey;
}
