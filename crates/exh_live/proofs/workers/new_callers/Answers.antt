use Rattle.std.proofs.Common.{rules, ◌≡◌, ◌+◌, ap, ◌∙◌}
use Rattle.exh_live.specs.LiveFile.{SeatState}
use Rattle.exh_live.specs.CursorPlaceLemmas.{one_more}
use Rattle.exh_live.specs.declared.caller.Caller.{Caller}
use Rattle.exh_live.proofs.workers.new_callers.Goals as goal

pub loop-at-preserved : goal.loop-at-preserved
loop-at-preserved g c =
    let was = c.loop-at.invariant in
    let Made : Type 0 = Caller g.row.F.Denot g.row.S.Denot g.F.Identity in
    let number : c.in-Ok.seat.client ≡ c.loop-at.at + 1 = ap (λ (seat : SeatState). seat.client) c.in-Ok.ensures.seat ∙ ap (λ n. n + 1) was.seats in
    record {
      some = search rules;
      bits = search rules;
      seats = search rules;
      callers = one_more (λ place (caller : Made). caller.seat.client ≡ place + 1) c.loop-at.at c.loop-at.callers.items _ c.push.new.self.items was.callers number c.in_ok-push-in-Ok.ensures.items;
    }
