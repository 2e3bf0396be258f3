use Rattle.std.proofs.Common.{◌≡◌, ◌+◌, length, Ok}
use Rattle.std.specs.Prelude.{All, MatchResult}
use Rattle.std.specs.Vec.Iter.{into_iter_items, into_iter_len}
use Rattle.exh_live.specs.CursorPlaceLemmas.{AreFirst}
use Rattle.exh_live.specs.declared.fault.StormFault.TheVariants.{Memory}
use Rattle.exh_live.specs.Refusals.{HasCounted, first_refusal}
use Rattle.exh_live.specs.StormCalls.{IsServed}
use Rattle.exh_live.proofs.FirstRefusals.{AreFrom, OfCaller}
use Rattle.exh_live.proofs.threads.join_callers.Given as goal

-- each thread that is left is that of its caller, each outcome so far that of one, and the seats so far were answered their calls: as many as outcomes, if none was refused
abbrev pub invariant-loop-thread : goal.invariant-loop-thread
invariant-loop-thread g l = record {
  len : into_iter_len l.thread-iterator ≡ length (into_iter_items l.thread-iterator);
  total : length l.outcomes.items + length (into_iter_items l.thread-iterator) ≡ l.fn.config.callers;
  left : AreFrom (λ place thread. MatchResult thread (λ handle. (handle.promise.number ≡ place + 1) × (handle.promise.config ≡ l.fn.config) × (handle.promise.gate.value ≡ l.gate)) (λ fault. fault ≡ Memory)) (length l.outcomes.items) (into_iter_items l.thread-iterator);
  outcomes : AreFirst (OfCaller (HasCounted g.P.Pages.failures) (g.G.Gate.may l.gate) l.fn.config) (length l.outcomes.items) l.outcomes.items;
  seats : All (IsServed l.fn.config.calls) l.seats.items;
  as_many : first_refusal l.outcomes.items ≡ Ok tt → length l.seats.items ≡ length l.outcomes.items;
}
