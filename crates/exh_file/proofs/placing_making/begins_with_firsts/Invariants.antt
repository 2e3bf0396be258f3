use Rattle.std.proofs.Common.{◌≡◌, ℕ, ◌<◌, ◌≤◌, length, slice_get, Some}
use Rattle.exh_placing.specs.Order.{page_at}
use Rattle.exh_file.proofs.placing_making.begins_with_firsts.Given as goal

abbrev pub invariant-loop-ward : goal.invariant-loop-ward
invariant-loop-ward l = record {
  room : l.wards ≤ length l.order;
  firsts : (ward : ℕ) → ward < l.ward → slice_get l.order ward ≡ Some (page_at ward 0);
}
