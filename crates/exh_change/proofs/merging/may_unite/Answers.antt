use Rattle.std.proofs.Common.{arith}
use Rattle.exh_change.proofs.merging.may_unite.Goals as goal

pub overflow_add-result : goal.overflow_add-result
overflow_add-result c = omega (arith, c.record_count.ensures, c.record_count-then-is_child.ensures, c.requires.few, c.requires.right_few)
