use Rattle.std.proofs.Common.{rules, ◌≡◌, ◌+◌, ℕ, [], subst}
use Rattle.exh_live.specs.CursorPlaceLemmas.{AreFirst, one_more}
use Rattle.exh_live.specs.declared.courier.Courier.{Courier}
use Rattle.exh_live.proofs.RoundsOn.{so_many}
use Rattle.exh_live.proofs.workers.new_workers.Goals as goal

pub loop-at-preserved : goal.loop-at-preserved
loop-at-preserved g c =
    let was = c.loop-at.invariant in
    let Made : Type 0 = Courier g.row.R.Denot g.row.S.Denot in
    record {
      readers = search rules;
      couriers =
          one_more (λ place (courier : Made). (courier.number ≡ place + 1) × (courier.copy.writer.published ≡ []) × (courier.copy.writer.pending ≡ [])) c.loop-at.at c.loop-at.couriers.items _ c.push.new.self.items was.couriers c.in_ok-courier.ensures.made
          c.in_ok-push.ensures.items;
    }

pub returns-clause-callers : goal.returns-clause-callers
returns-clause-callers g c = c.in_ok-callers.ensures.callers

pub returns-clause-couriers : goal.returns-clause-couriers
returns-clause-couriers g c =
    let Made : Type 0 = Courier g.row.R.Denot g.row.S.Denot in
    let Fits : ℕ → Made → Type 0 = λ place courier. (courier.number ≡ place + 1) × (courier.copy.writer.published ≡ []) × (courier.copy.writer.pending ≡ []) in
    subst (λ count. AreFirst Fits count c.loop-at.couriers.items) (so_many c.loop-at-test.false c.loop-at.auto.at-end) c.loop-at.invariant.couriers
