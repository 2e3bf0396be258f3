use Rattle.std.proofs.Common.{◌≡◌, ◌+◌, length}
use Rattle.std.specs.Prelude.{MatchResult}
use Rattle.std.specs.Vec.Iter.{into_iter_items, into_iter_len}
use Rattle.exh_live.specs.CursorPlaceLemmas.{AreFirst}
use Rattle.exh_live.specs.declared.fault.StormFault.TheVariants.{Memory}
use Rattle.exh_live.proofs.FirstRefusals.{AreFrom}
use Rattle.exh_live.proofs.threads.start_callers.Given as goal

-- the callers that are left have the numbers that follow, and each thread so far is its caller's
abbrev pub invariant-loop-caller : goal.invariant-loop-caller
invariant-loop-caller g l = record {
  len : into_iter_len l.caller-iterator ≡ length (into_iter_items l.caller-iterator);
  total : length l.threads.items + length (into_iter_items l.caller-iterator) ≡ l.config.callers;
  left : AreFrom (λ place caller. caller.seat.client ≡ place + 1) (length l.threads.items) (into_iter_items l.caller-iterator);
  threads : AreFirst (λ place thread. MatchResult thread (λ handle. (handle.promise.number ≡ place + 1) × (handle.promise.config ≡ l.config) × (handle.promise.gate.value ≡ l.gate)) (λ fault. fault ≡ Memory)) (length l.threads.items) l.threads.items;
}
