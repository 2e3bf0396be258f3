use Rattle.std.proofs.Common.{◌≡◌, take}
use Rattle.exh_file.specs.Saved.{counts_in}
use Rattle.exh_file.proofs.header.page_counts_of.Given as goal

-- the counts of the wards so far
abbrev pub invariant-loop-number : goal.invariant-loop-number
invariant-loop-number g l = l.counts ≡ counts_in (take l.number l.wards)
