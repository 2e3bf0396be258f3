use Rattle.std.proofs.Common.{◌≡◌}
use Rattle.exh_table.specs.Table.{TableMap}
use Rattle.exh_array.specs.Within.{HasLeavesOf}
use Rattle.exh_array.proofs.pointers.Pointers.flatten.Given as goal

abbrev pub invariant-loop-self : goal.invariant-loop-self
invariant-loop-self l = record {
  ward_bits : l.self.ward_bits ≡ l.fn.self.ward_bits;
  leaves : (table : TableMap) → HasLeavesOf table l.fn.self → HasLeavesOf table l.self;
}

abbrev pub decreases-loop-self : goal.decreases-loop-self
decreases-loop-self l = l.self.depth
