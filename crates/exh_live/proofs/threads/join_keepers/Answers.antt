use Rattle.std.proofs.Common.{◌≡◌, ◌^◌, length, ap, Result, inl, arith}
use Rattle.std.specs.Prelude.{MatchResult}
use Rattle.std.specs.Vec.Iter.{into_iter_items}
use Rattle.std.specs.declared.thread.PromisedHandle.{PromisedHandle}
use Rattle.std.proofs.lemmas.Result.{IfOk-from_err}
use Rattle.exh_page.specs.declared.storm_config.StormConfig.{StormConfig}
use Rattle.exh_live.specs.Refusals.{HasCounted, IsRefusedKeeper, Outcome}
use Rattle.exh_live.specs.declared.fault.StormFault.{StormFault}
use Rattle.exh_live.specs.declared.fault.StormFault.TheVariants.{Memory}
use Rattle.exh_live.specs.declared.threads.Worker.{Worker}
use Rattle.exh_live.proofs.FirstRefusals.{OfKeeper, first_more, first_none, from_more, from_next, from_none, joined, total_more}
use Rattle.exh_live.proofs.threads.join_keepers.Given.{Over}
use Rattle.exh_live.proofs.threads.join_keepers.Goals as goal

abbrev Handle : Over → Type 0
Handle g = PromisedHandle Outcome (Worker g.row.P.Denot g.row.G.Denot)

pub loop-thread-init : goal.loop-thread-init
loop-thread-init g c =
    let gives = c.into_iter-thread-iterator.ensures.into_iter_gives in
    let none = c.in_ok-outcomes.ensures.items in
    record {
      len = omega (arith, gives.1, ap length gives.0, c.args.threads.ok);
      total = omega (arith, ap length none, ap length gives.0, c.requires.0);
      left = from_none (λ place (thread : Result (Handle g) StormFault). MatchResult thread (λ handle. (handle.promise.number ≡ place) × (handle.promise.config ≡ c.args.config) × (handle.promise.gate.value ≡ c.args.gate.now)) (λ fault. fault ≡ Memory)) (2 ^ c.args.config.ward_bits) c.args.threads.items _ c.in_ok-outcomes.outcomes.items none gives.0 c.requires;
      outcomes = first_none (OfKeeper (HasCounted g.P.Pages.failures) (g.G.Gate.may c.args.gate.now) c.args.config) c.in_ok-outcomes.outcomes.items none;
    }

pub loop-thread-preserved : goal.loop-thread-preserved
loop-thread-preserved g c =
    let was = c.loop-thread.invariant in
    let step = c.in-Some.ensures.steps in
    let made = c.loop-thread.outcomes.items in
    let new = c.push.new.self.items in
    let thread = c.in-Some.thread in
    let last = c.join_keeper.result in
    let more = c.in_ok-push.ensures.items in
    let next = from_next (λ place (thread : Result (Handle g) StormFault). MatchResult thread (λ handle. (handle.promise.number ≡ place) × (handle.promise.config ≡ c.args.config) × (handle.promise.gate.value ≡ c.args.gate.now)) (λ fault. fault ≡ Memory)) (length made) thread (into_iter_items c.loop-thread.thread-iterator) (into_iter_items c.next.new.self) step.0 was.left in
    let kept = joined (λ (config : StormConfig) (gate : g.row.G.Denot) number. IsRefusedKeeper (HasCounted g.P.Pages.failures) (g.G.Gate.may gate) config.calls number) (λ (handle : Handle g). handle.promise.number) (λ (handle : Handle g). handle.promise.config) (λ (handle : Handle g). handle.promise.gate.value) (length made) c.args.config c.args.gate.now thread last (λ fault memory. inl memory) next.0 c.join_keeper.ensures in
    record {
      len = omega (arith, was.len, step.1, ap length step.0);
      total = total_more (2 ^ c.args.config.ward_bits) thread _ _ made last new step.0 more was.total;
      left = from_more (λ place (thread : Result (Handle g) StormFault). MatchResult thread (λ handle. (handle.promise.number ≡ place) × (handle.promise.config ≡ c.args.config) × (handle.promise.gate.value ≡ c.args.gate.now)) (λ fault. fault ≡ Memory)) (into_iter_items c.next.new.self) made last new more next.1;
      outcomes = first_more (OfKeeper (HasCounted g.P.Pages.failures) (g.G.Gate.may c.args.gate.now) c.args.config) made last new more was.outcomes kept;
    }

pub loop-thread-smaller : goal.loop-thread-smaller
loop-thread-smaller g c = omega (arith, c.in-Some.ensures.steps.1)

pub returns-in_err-outcomes : goal.returns-in_err-outcomes
returns-in_err-outcomes g c = IfOk-from_err c.from_residual.result _ c.from_residual.ensures.0

pub returns-in_err-push : goal.returns-in_err-push
returns-in_err-push g c = IfOk-from_err c.from_residual-in_err-push.result _ c.from_residual-in_err-push.ensures.0

pub returns : goal.returns
returns g c =
    let was = c.loop-thread.invariant in
    let all : length c.loop-thread.outcomes.items ≡ 2 ^ c.args.config.ward_bits = omega (arith, was.total, was.len, c.in-None.ensures.steps.0) in
    (all, was.outcomes.1)
