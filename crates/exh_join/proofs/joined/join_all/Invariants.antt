use Rattle.std.proofs.Common.{◌+◌, ◌≤◌, length, take}
use Rattle.exh_join.specs.Joined.{IsLeastAboveEach}
use Rattle.exh_join.proofs.joined.join_all.Given as goal

abbrev pub invariant-loop-value : goal.invariant-loop-value
invariant-loop-value g l = record {
  bound : l.value-index ≤ length l.rest;
  least : IsLeastAboveEach g.J.Join.IsAtMost (take (l.value-index + 1) l.values) l.joined;
}
