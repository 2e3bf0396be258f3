use Rattle.std.proofs.Common.{◌≡◌, ◌*◌, ◌≤◌, take}
use Rattle.exh_compact.specs.Stats.{byte_sum}
use Rattle.exh_compact.proofs.counting.byte_count.Given as goal

-- the sum so far, and what it is at most
abbrev pub invariant-loop-shape : goal.invariant-loop-shape
invariant-loop-shape l = record {
  sum : l.sum ≡ byte_sum (take l.shape-index l.shapes);
  few : l.sum ≤ 65535 * l.shape-index;
}
