use Rattle.std.proofs.Common.{◌≡◌, ℕ, ◌<◌, length, take, get_or}
use Rattle.exh_placing.specs.Order.{own_in}
use Rattle.exh_placing.proofs.order.counts_of.Given as goal

abbrev pub invariant-loop-place : goal.invariant-loop-place
invariant-loop-place l = record {
  long : length l.found ≡ 16;
  found_are : (ward : ℕ) → ward < 16 → get_or l.found ward 0 ≡ own_in (take l.place l.order) ward;
}
