use Rattle.std.proofs.Common.{◌≡◌}
use Rattle.exh_array.proofs.Halved.{AreMoved}
use Rattle.exh_array.proofs.pointers.Pointers.halve.Given as goal

abbrev pub invariant-loop-at : goal.invariant-loop-at
invariant-loop-at l = record {
  ward_bits : l.self-inside.ward_bits ≡ l.initial.self-inside.ward_bits;
  depth : l.self-inside.depth ≡ l.initial.self-inside.depth;
  moved : AreMoved l.at l.initial.self-inside.pointers.items l.self-inside.pointers.items;
}
