use Rattle.std.proofs.Common.{◌+◌, ◌<◌, [], vec_len, refl, sym, ap, ◌∙◌, subst, arith}
use Rattle.exh_live.specs.LiveFile.{LiveState, SeatState}
use Rattle.exh_live.proofs.Parts.{room_for_seat}
use Rattle.exh_live.proofs.live_file.LiveFile.seat.Goals as goal

pub returns-then-self-eq-CALLER_LIMIT-clause-seat : goal.returns-then-self-eq-CALLER_LIMIT-clause-seat
returns-then-self-eq-CALLER_LIMIT-clause-seat g c = tt

pub returns-then-self-eq-CALLER_LIMIT-clause-ok : goal.returns-then-self-eq-CALLER_LIMIT-clause-ok
returns-then-self-eq-CALLER_LIMIT-clause-ok g c = tt

pub returns-then-self-eq-CALLER_LIMIT-clause-limit : goal.returns-then-self-eq-CALLER_LIMIT-clause-limit
returns-then-self-eq-CALLER_LIMIT-clause-limit g c = tt

pub returns-then-self-eq-CALLER_LIMIT-clause-full : goal.returns-then-self-eq-CALLER_LIMIT-clause-full
returns-then-self-eq-CALLER_LIMIT-clause-full g c = sym (ap (λ (file : LiveState g.row.K.Denot). file.seats) c.self.view_is) ∙ c.if-self-eq-CALLER_LIMIT.true

pub returns-then-self-eq-CALLER_LIMIT-clause-err : goal.returns-then-self-eq-CALLER_LIMIT-clause-err
returns-then-self-eq-CALLER_LIMIT-clause-err g c = refl

pub part-answers-requires-clause-some : goal.part-answers-requires-clause-some
part-answers-requires-clause-some g c = room_for_seat (vec_len c.self.inside.wards) c.self.invariant.3 (omega (arith, c.self.invariant.4, c.if-self-eq-CALLER_LIMIT.false)) c.self.invariant.5

pub part-answers-requires-clause-none : goal.part-answers-requires-clause-none
part-answers-requires-clause-none g c = c.self.invariant.6

pub new-requires-clause-limit : goal.new-requires-clause-limit
new-requires-clause-limit g c = omega (arith, c.self.invariant.4, c.if-self-eq-CALLER_LIMIT.false)

pub new-requires-clause-part : goal.new-requires-clause-part
new-requires-clause-part g c = c.part-answers.ensures.part

pub new-requires-clause-none : goal.new-requires-clause-none
new-requires-clause-none g c = c.part-answers.ensures.amount

pub invariant_of-self : goal.invariant_of-self
invariant_of-self g c =
    let was = c.self.invariant in (
      was.0,
      was.1,
      was.2,
      was.3,
      omega (arith, was.4, c.if-self-eq-CALLER_LIMIT.false),
      omega (arith, was.5, c.part-answers.ensures.left),
      c.part-answers.ensures.none,
      was.7,
      was.8,
    )

pub returns-clause-seat : goal.returns-clause-seat
returns-clause-seat g c = c.new.ensures ∙ ap {B = SeatState} (λ (file : LiveState g.row.K.Denot). record { client = file.seats + 1; entries = [] }) c.self.view_is

pub returns-clause-ok : goal.returns-clause-ok
returns-clause-ok g c = ap (λ (file : LiveState g.row.K.Denot). record file { seats = file.seats + 1 }) c.self.view_is

pub returns-clause-limit : goal.returns-clause-limit
returns-clause-limit g c =
    let below : c.self.inside.seats < 65535 = omega (arith, c.self.invariant.4, c.if-self-eq-CALLER_LIMIT.false) in
    subst (λ seats. seats < 65535) (ap (λ (file : LiveState g.row.K.Denot). file.seats) c.self.view_is) below

pub returns-clause-full : goal.returns-clause-full
returns-clause-full g c = tt

pub returns-clause-err : goal.returns-clause-err
returns-clause-err g c = tt
