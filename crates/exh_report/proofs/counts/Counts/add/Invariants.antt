use Rattle.std.proofs.Common.{◌≡◌, ◌+◌, drop, length}
use Rattle.exh_report.specs.Counts.{forward_count, live_count, record_count}
use Rattle.exh_report.proofs.counts.Counts.add.Given as goal

-- with those of the pages that are left, the counts are those of the end
abbrev pub invariant-loop-page : goal.invariant-loop-page
invariant-loop-page l = record {
  pages : l.self.pages ≡ l.fn.self.pages + length l.pages;
  live : l.self.live + live_count (drop l.page-index l.pages) ≡ l.fn.self.live + live_count l.pages;
  forward : l.self.forward + forward_count (drop l.page-index l.pages) ≡ l.fn.self.forward + forward_count l.pages;
  records : l.self.records + record_count (drop l.page-index l.pages) ≡ l.fn.self.records + record_count l.pages;
}
