use Rattle.std.proofs.Common.{◌≡◌, ◌+◌, ◌*◌, ◌≤◌, length, vec_len, vec_capacity}
use Rattle.std.specs.Vec.Iter.{into_iter_items, into_iter_len}
use Rattle.exh_live.specs.Closing.{entries_made}
use Rattle.exh_live.specs.WardParts.{parts_of_wards, ward_parts}
use Rattle.exh_live.proofs.close.unlock.Given as goal

-- the locks left, and the wards so far with their parts and their entries
abbrev pub invariant-loop-lock : goal.invariant-loop-lock
invariant-loop-lock g l = record {
  len : into_iter_len l.lock-iterator ≡ length (into_iter_items l.lock-iterator);
  count : length l.wards.items + length (into_iter_items l.lock-iterator) ≡ vec_len l.fn.locks;
  room : vec_len l.fn.locks ≤ vec_capacity l.wards;
  answers : l.answers.parts + parts_of_wards l.wards.items ≡ l.fn.answers.parts + length l.wards.items * ward_parts;
  entries : l.entries.parts ≡ l.fn.entries.parts + parts_of_wards l.wards.items;
  amount : l.entries.amount ≡ l.fn.entries.amount + entries_made l.wards.items;
  none : l.answers.amount ≡ l.fn.answers.amount;
}
