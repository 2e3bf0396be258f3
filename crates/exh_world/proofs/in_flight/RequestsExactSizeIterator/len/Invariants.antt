use Rattle.std.proofs.Common.{◌≡◌, ◌+◌, ◌<◌, ◌^◌, length}
use Rattle.exh_world.specs.Slots.{standing_in}
use Rattle.exh_world.proofs.in_flight.RequestsExactSizeIterator.len.Given as goal

-- as many so far, and the others to come
abbrev pub invariant-loop-slot : goal.invariant-loop-slot
invariant-loop-slot l = record {
  can_next : (goal.iterator-loop-slot).can_next l.slot-iterator;
  is_finite : (goal.iterator-loop-slot).is_finite l.slot-iterator;
  sum : l.len + length (standing_in l.slot-iterator) ≡ length l.self;
  fits : l.len + length l.slot-iterator < 2 ^ 63;
}
