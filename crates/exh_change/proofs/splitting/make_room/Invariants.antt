use Rattle.std.proofs.Common.{◌-◌, length}
use Rattle.exh_change.specs.Changes.{prefix_in}
use Rattle.exh_change.proofs.Rooms.{IsOnWay}
use Rattle.exh_change.proofs.splitting.make_room.Given as goal

abbrev pub invariant-loop-alloc : goal.invariant-loop-alloc
invariant-loop-alloc g l = IsOnWay (g.B.Blocks.known l.fn.blocks) (g.B.Blocks.known l.blocks) l.fn.draft l.draft l.fn.home l.home l.pseudokey l.call

abbrev pub decreases-loop-alloc : goal.decreases-loop-alloc
decreases-loop-alloc g l = 20 - length (prefix_in l.home.page)
