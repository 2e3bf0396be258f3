use Rattle.std.proofs.Common.{◌≡◌, ◌+◌, [], length}
use Rattle.exh_live.specs.CursorPlaceLemmas.{AreFirst}
use Rattle.exh_live.proofs.workers.new_workers.Given as goal

-- the readers of the copies so far, and a courier to each, which has its number
abbrev pub invariant-loop-at : goal.invariant-loop-at
invariant-loop-at g l = record {
  readers : length l.readers.items ≡ l.at;
  couriers : AreFirst (λ place courier. (courier.number ≡ place + 1) × (courier.copy.writer.published ≡ []) × (courier.copy.writer.pending ≡ [])) l.at l.couriers.items;
}
