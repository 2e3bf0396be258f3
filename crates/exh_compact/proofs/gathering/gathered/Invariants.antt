use Rattle.std.proofs.Common.{◌≡◌, ◌*◌, ◌≤◌, length, map, take}
use Rattle.exh_compact.specs.Shape.{shape_of}
use Rattle.exh_compact.specs.Stats.{shapes_in, ward_counts_of}
use Rattle.exh_compact.proofs.gathering.gathered.Given as goal

-- the shapes of the wards so far
abbrev pub invariant-wards : goal.invariant-wards
invariant-wards g l = record {
  within : l.number ≤ length l.fn.wards.items;
  shapes : l.shapes.items ≡ shapes_in (take l.number l.fn.wards.items);
  counts : l.counts.items ≡ map (λ ward. ward_counts_of (map shape_of ward.pages)) (take l.number l.fn.wards.items);
  few : length l.shapes.items ≤ 1048576 * l.number;
  same : l.wards.items ≡ l.fn.wards.items;
}
