use Rattle.std.proofs.Common.{◌≡◌}
use Rattle.std.specs.Prelude.{MatchResult}
use Rattle.exh_live.specs.CursorPlaceLemmas.{AreFirst}
use Rattle.exh_live.specs.declared.fault.StormFault.TheVariants.{Memory}
use Rattle.exh_live.proofs.threads.start_keepers.Given as goal

-- each thread so far is its keeper's
abbrev pub invariant-loop-ward : goal.invariant-loop-ward
invariant-loop-ward g l = AreFirst (λ place thread. MatchResult thread (λ handle. (handle.promise.number ≡ place) × (handle.promise.config ≡ l.config) × (handle.promise.gate.value ≡ l.gate)) (λ fault. fault ≡ Memory)) l.ward l.threads.items
