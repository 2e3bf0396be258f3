use Rattle.std.proofs.Common.{◌≡◌, ◌<◌, ◌^◌, length}
use Rattle.exh_world.specs.Slots.{standing_in}
use Rattle.exh_world.proofs.in_flight.RequestsIterator.next.Given as goal

-- no request so far stands
abbrev pub invariant-loop-slot : goal.invariant-loop-slot
invariant-loop-slot l = record {
  rest : standing_in l.self-inside.slots ≡ l.fn.self;
  fits : length l.self-inside.slots < 2 ^ 63;
}

abbrev pub decreases-loop-slot : goal.decreases-loop-slot
decreases-loop-slot l = length l.self-inside.slots
