use Rattle.std.proofs.Common.{◌≡◌, ◌+◌, ◌≤◌, ◌++◌, length, map, vec_capacity}
use Rattle.std.specs.Vec.Iter.{into_iter_items, into_iter_len}
use Rattle.exh_live.specs.Closing.{answers_given, seat_of}
use Rattle.exh_live.proofs.close.stand_up.Given as goal

-- the seats left, and the diaries so far with their answers
abbrev pub invariant-loop-seat : goal.invariant-loop-seat
invariant-loop-seat g l = record {
  len : into_iter_len l.seat-iterator ≡ length (into_iter_items l.seat-iterator);
  diaries : map seat_of l.diaries.items ++ into_iter_items l.seat-iterator ≡ l.fn.seats.items;
  room : length l.diaries.items + length (into_iter_items l.seat-iterator) ≤ vec_capacity l.diaries;
  parts : l.answers.parts ≡ l.fn.answers.parts + length l.diaries.items;
  amount : l.answers.amount ≡ l.fn.answers.amount + answers_given l.diaries.items;
}
