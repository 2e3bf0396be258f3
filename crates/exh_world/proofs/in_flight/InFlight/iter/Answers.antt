use Rattle.std.proofs.Common.{ℕ, length, ap}
use Rattle.std.specs.Map.Iter.{TakesFirst, deref_pair}
use Rattle.std.proofs.iter.runs.Sources.{from_front}
use Rattle.exh_world.specs.declared.request.Request.{Request}
use Rattle.exh_world.proofs.in_flight.InFlight.iter.Goals as goal

pub returns-clause-runs : goal.returns-clause-runs
returns-clause-runs c = from_front (TakesFirst (deref_pair {K = ℕ} {X = Request})) deref_pair (λ s. s) (λ s t h. ap length h.0) (λ s x t h. h)
