use Rattle.std.proofs.Common.{arith, ap, length, rules}
use Rattle.std.proofs.lemmas.Grind.{common_steps}
use Rattle.exh_world.proofs.in_flight.RequestsIterator.next.Goals as goal

pub invariant_of-self-then-not-slot : goal.invariant_of-self-then-not-slot
invariant_of-self-then-not-slot c = omega (arith, ap length c.in_ok-slot.ensures.steps)

pub loop-slot-preserved : goal.loop-slot-preserved
loop-slot-preserved c = record {
  rest = first_of (search rules, grind (arith, common_steps));
  fits = omega (arith, ap length c.in_ok-slot.ensures.steps);
}
