use Rattle.std.proofs.Common.{arith}
use Rattle.std.specs.FinSet as set
use Rattle.exh_prefix.specs.Prefix.{prefix_cmp}
use Rattle.exh_model.specs.LeafSet.{members}
use Rattle.exh_model.proofs.LeafLemmas.{leaves_after-more}
use Rattle.exh_model.proofs.leaf_set.LeafSet.after.Goals as goal

pub loop-change-preserved : goal.loop-change-preserved
loop-change-preserved c =
    leaves_after-more (members (set.from_list {R = prefix_cmp} c.args.start.now)) (members c.loop-change.leaves) (members c.change.new.self) c.args.changes.now c.loop-change.change-index c.change-item.result (omega arith)
    c.change-item.is c.loop-change.invariant c.in_ok-change.ensures.ok
