use Rattle.std.proofs.Common.{◌≡◌, ◌≤◌, length, map, take}
use Rattle.exh_world.proofs.world.world_of_wards.notice_counts.Given as goal

-- the counts of the wards so far
abbrev pub invariant-loop-ward : goal.invariant-loop-ward
invariant-loop-ward g l = record {
  within : l.ward-index ≤ length l.wards;
  counts : l.counts.items ≡ map (λ ward. length ward.notices) (take l.ward-index l.wards);
}
