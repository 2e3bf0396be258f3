use Rattle.std.proofs.Common.{◌≡◌, ◌-◌, ◌^◌, take}
use Rattle.std.specs.Prelude.{min}
use Rattle.exh_compact.specs.Compacted.{pages_in}
use Rattle.exh_compact.proofs.compaction.page_count.Given as goal

-- the pages of the wards so far
abbrev pub invariant-loop-ward : goal.invariant-loop-ward
invariant-loop-ward l = l.count ≡ min (pages_in (take l.ward-index l.wards)) (2 ^ 64 - 1)
