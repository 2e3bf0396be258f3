use Rattle.std.proofs.Common.{sym, ◌∙◌}
use Rattle.std.proofs.lemmas.Bool.{false≢true}
use Rattle.exh_live.proofs.Rounds.{batch_pushed, none_follows_at, one_pushed}
use Rattle.exh_live.proofs.courier_round.push_next.Goals as goal

pub loop-notice-preserved : goal.loop-notice-preserved
loop-notice-preserved c =
    one_pushed c.args.number c.args.batch.now c.args.notices.now.items c.loop-notice.notices.items c.push.new.self.items c.args.cursor c.loop-notice.notice-index c.loop-notice.last c.notice-item.result c.loop-notice-test.true c.loop-notice.invariant (sym c.notice-item.is)
    (c.is_next.ensures.0 c.if-not-is_next.false) c.in_ok-push.ensures.items

pub returns-then-not-is_next : goal.returns-then-not-is_next
returns-then-not-is_next c =
    batch_pushed c.args.number c.args.batch.now c.args.notices.now.items c.loop-notice.notices.items c.args.cursor c.loop-notice.notice-index c.loop-notice.last c.loop-notice.invariant
    (none_follows_at c.args.number c.loop-notice.last c.args.batch.now c.loop-notice.notice-index c.notice-item.result c.loop-notice-test.true (sym c.notice-item.is) (λ follows. false≢true (sym c.if-not-is_next.true ∙ c.is_next.ensures.1 follows)))
