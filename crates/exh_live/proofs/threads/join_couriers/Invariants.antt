use Rattle.std.proofs.Common.{◌≡◌, ◌+◌, length}
use Rattle.std.specs.Prelude.{MatchResult}
use Rattle.std.specs.Vec.Iter.{into_iter_items, into_iter_len}
use Rattle.exh_live.specs.CursorPlaceLemmas.{AreFirst}
use Rattle.exh_live.specs.declared.fault.StormFault.TheVariants.{Memory}
use Rattle.exh_live.specs.Refusals.{HasCounted}
use Rattle.exh_live.proofs.FirstRefusals.{AreFrom, OfCourier}
use Rattle.exh_live.proofs.threads.join_couriers.Given as goal

-- each thread that is left is that of its worker, and each outcome so far that of one
abbrev pub invariant-loop-thread : goal.invariant-loop-thread
invariant-loop-thread g l = record {
  len : into_iter_len l.thread-iterator ≡ length (into_iter_items l.thread-iterator);
  total : length l.outcomes.items + length (into_iter_items l.thread-iterator) ≡ l.fn.config.copies;
  left : AreFrom (λ place thread. MatchResult thread (λ handle. (handle.promise.number ≡ place + 1) × (handle.promise.config ≡ l.fn.config) × (handle.promise.gate.value ≡ l.gate)) (λ fault. fault ≡ Memory)) (length l.outcomes.items) (into_iter_items l.thread-iterator);
  outcomes : AreFirst (OfCourier (HasCounted g.P.Pages.failures) (g.G.Gate.may l.gate) l.fn.config) (length l.outcomes.items) l.outcomes.items;
}
