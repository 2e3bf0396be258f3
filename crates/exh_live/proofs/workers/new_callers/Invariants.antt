use Rattle.std.proofs.Common.{◌≡◌, ◌+◌, ◌<◌, length}
use Rattle.exh_live.specs.CursorPlaceLemmas.{AreFirst}
use Rattle.exh_live.proofs.workers.new_callers.Given as goal

-- there are readers, and a seat for each caller so far, which has its number
abbrev pub invariant-loop-at : goal.invariant-loop-at
invariant-loop-at g l = record {
  some : 0 < length l.readers.items;
  bits : l.file.ward_bits ≡ l.fn.file.ward_bits;
  seats : l.file.seats ≡ l.at;
  callers : AreFirst (λ place caller. caller.seat.client ≡ place + 1) l.at l.callers.items;
}
