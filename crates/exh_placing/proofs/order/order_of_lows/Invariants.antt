use Rattle.std.proofs.Common.{◌≡◌, ℕ, ◌<◌, length, map, take, get_or}
use Rattle.exh_prefix.specs.Leading.{ward_of}
use Rattle.exh_placing.specs.Order.{IsNumbered, own_in}
use Rattle.exh_placing.proofs.order.order_of_lows.Given as goal

abbrev pub invariant-loop-place : goal.invariant-loop-place
invariant-loop-place l = record {
  long : length l.found ≡ 16;
  found_are : (ward : ℕ) → ward < 16 → get_or l.found ward 0 ≡ own_in l.order.items ward;
  numbered : IsNumbered l.order.items;
  wards : map (λ page. page.ward) l.order.items ≡ map (ward_of l.ward_bits) (take l.place l.lows);
}
