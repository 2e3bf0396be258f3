use Rattle.std.proofs.Common.{sym}
use Rattle.exh_live.proofs.Rounds.{one_taken, take_refused, takes_nothing}
use Rattle.exh_live.proofs.courier_round.take_all.Goals as goal

pub loop-notice-init : goal.loop-notice-init
loop-notice-init g c = takes_nothing c.args.copy.now

pub loop-notice-preserved : goal.loop-notice-preserved
loop-notice-preserved g c =
    one_taken c.args.notices.now c.args.copy.now c.loop-notice.copy c.take.new.self c.loop-notice.notice-index c.notice-item.result c.loop-notice-test.true c.loop-notice.invariant (sym c.notice-item.is) c.in_ok-take.ensures.ok

pub returns-in_err-take-clause-err : goal.returns-in_err-take-clause-err
returns-in_err-take-clause-err g c = take_refused c.args.notices.now c.args.copy.now c.loop-notice.copy c.take.new.self c.loop-notice.notice-index c.from_residual.result c.loop-notice.invariant c.in_err-take.ensures.err
