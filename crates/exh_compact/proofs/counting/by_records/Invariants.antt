use Rattle.std.proofs.Common.{◌≡◌, ℕ, ◌<◌, length, get_or}
use Rattle.exh_compact.specs.Stats.{with_records_count}
use Rattle.exh_compact.proofs.counting.by_records.Given as goal

-- the counts so far
abbrev pub invariant-loop-records : goal.invariant-loop-records
invariant-loop-records l = record {
  long : length l.counts ≡ 17;
  counts : (k : ℕ) → k < l.records → get_or l.counts k 0 ≡ with_records_count k l.shapes;
}
