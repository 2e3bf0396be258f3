use Rattle.std.proofs.Common.{take}
use Rattle.std.specs.FinSet as set
use Rattle.exh_table.specs.Leaves.{leaves_after}
use Rattle.exh_model.specs.LeafSet.{members, AreSame}
use Rattle.exh_model.proofs.leaf_set.LeafSet.after.Given as goal

-- the leaves after the changes so far
abbrev pub invariant-loop-change : goal.invariant-loop-change
invariant-loop-change l = AreSame (members l.leaves) (leaves_after (members (set.from_list l.start)) (take l.change-index l.changes))
