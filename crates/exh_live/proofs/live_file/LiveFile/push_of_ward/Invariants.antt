use Rattle.std.proofs.Common.{◌+◌, ◌≤◌}
use Rattle.exh_live.specs.Rounds.{AreSomeWardsNotices, PushesFromTo}
use Rattle.exh_live.proofs.live_file.LiveFile.push_of_ward.Given as goal

-- what was pushed so far, that it is no more than what isn't left of the first count, and that it is of the ward
abbrev pub invariant-loop-left : goal.invariant-loop-left
invariant-loop-left g l = PushesFromTo l.number l.fn.notices.items l.cursor l.notices.items l.last × (l.last + l.left ≤ l.cursor + l.count)
    × (AreSomeWardsNotices g.K.Keyer.pseudokey_of l.fn.notices.items → AreSomeWardsNotices g.K.Keyer.pseudokey_of l.notices.items)

-- how many notices may be left
abbrev pub decreases-loop-left : goal.decreases-loop-left
decreases-loop-left g l = l.left
