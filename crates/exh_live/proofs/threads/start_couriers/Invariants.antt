use Rattle.std.proofs.Common.{◌≡◌, ◌+◌, length}
use Rattle.std.specs.Prelude.{MatchResult}
use Rattle.std.specs.Vec.Iter.{into_iter_items, into_iter_len}
use Rattle.exh_live.specs.CursorPlaceLemmas.{AreFirst}
use Rattle.exh_live.specs.declared.fault.StormFault.TheVariants.{Memory}
use Rattle.exh_live.proofs.FirstRefusals.{AreFrom}
use Rattle.exh_live.proofs.threads.start_couriers.Given as goal

-- the couriers that are left have the numbers that follow, and each thread so far is its courier's
abbrev pub invariant-loop-courier : goal.invariant-loop-courier
invariant-loop-courier g l = record {
  len : into_iter_len l.courier-iterator ≡ length (into_iter_items l.courier-iterator);
  total : length l.threads.items + length (into_iter_items l.courier-iterator) ≡ l.config.copies;
  left : AreFrom (λ place courier. courier.number ≡ place + 1) (length l.threads.items) (into_iter_items l.courier-iterator);
  threads : AreFirst (λ place thread. MatchResult thread (λ handle. (handle.promise.number ≡ place + 1) × (handle.promise.config ≡ l.config) × (handle.promise.gate.value ≡ l.gate)) (λ fault. fault ≡ Memory)) (length l.threads.items) l.threads.items;
}
