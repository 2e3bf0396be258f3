use Rattle.exh_live.proofs.Rounds.{BatchSoFar}
use Rattle.exh_live.proofs.courier_round.push_next.Given as goal

-- the notices so far are pushed
abbrev pub invariant-loop-notice : goal.invariant-loop-notice
invariant-loop-notice l = BatchSoFar l.number l.batch l.fn.notices.items l.cursor l.notice-index l.notices.items l.last
