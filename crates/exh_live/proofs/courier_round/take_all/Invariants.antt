use Rattle.std.proofs.Common.{take}
use Rattle.exh_live.specs.Rounds.{TakesAll}
use Rattle.exh_live.proofs.courier_round.take_all.Given as goal

-- the notices so far are taken
abbrev pub invariant-loop-notice : goal.invariant-loop-notice
invariant-loop-notice g l = TakesAll l.fn.copy (take l.notice-index l.notices) l.copy
