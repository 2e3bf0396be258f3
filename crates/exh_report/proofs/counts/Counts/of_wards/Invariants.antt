use Rattle.std.proofs.Common.{◌≡◌, ◌+◌, drop, length}
use Rattle.exh_format.specs.FileParts.{pages_in}
use Rattle.exh_report.specs.Counts.{forward_count, live_count, record_count}
use Rattle.exh_report.proofs.counts.Counts.of_wards.Given as goal

-- with those of the wards that are left, the counts are those of all
abbrev pub invariant-loop-ward : goal.invariant-loop-ward
invariant-loop-ward l = record {
  pages : l.counts.pages + length (pages_in (drop l.ward-index l.wards)) ≡ length (pages_in l.wards);
  live : l.counts.live + live_count (pages_in (drop l.ward-index l.wards)) ≡ live_count (pages_in l.wards);
  forward : l.counts.forward + forward_count (pages_in (drop l.ward-index l.wards)) ≡ forward_count (pages_in l.wards);
  records : l.counts.records + record_count (pages_in (drop l.ward-index l.wards)) ≡ record_count (pages_in l.wards);
}
