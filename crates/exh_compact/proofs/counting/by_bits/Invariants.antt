use Rattle.std.proofs.Common.{◌≡◌, ℕ, ◌<◌, length, get_or}
use Rattle.exh_compact.specs.Stats.{with_bits_count}
use Rattle.exh_compact.proofs.counting.by_bits.Given as goal

-- the counts so far
abbrev pub invariant-loop-bits : goal.invariant-loop-bits
invariant-loop-bits l = record {
  long : length l.counts ≡ 21;
  counts : (k : ℕ) → k < l.bits → get_or l.counts k 0 ≡ with_bits_count k l.shapes;
}
