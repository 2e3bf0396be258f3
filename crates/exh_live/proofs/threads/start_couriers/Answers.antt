use Rattle.std.proofs.Common.{rules, ◌≡◌, ℕ, ◌+◌, ap, sym, ◌∙◌, length, subst, IfErr, arith}
use Rattle.std.specs.Prelude.{MatchResult}
use Rattle.std.specs.Vec.Iter.{into_iter_items}
use Rattle.std.proofs.lemmas.Result.{IfOk-from_err}
use Rattle.exh_live.specs.declared.courier.Courier.{Courier}
use Rattle.exh_live.specs.declared.courier.TheConstants.{COURIER_CLIENT}
use Rattle.exh_live.specs.declared.fault.StormFault.TheVariants.{Memory}
use Rattle.exh_live.specs.declared.threads.Worker.{Worker}
use Rattle.exh_live.specs.StormRounds.{IsCourierFault}
use Rattle.exh_live.proofs.FirstRefusals.{first_more, first_none, from_more, from_next, from_none, kept_so, total_more}
use Rattle.exh_live.proofs.threads.start_couriers.Given.{Over}
use Rattle.exh_live.proofs.threads.start_couriers.Goals.{in-Ok, in-Err}
use Rattle.exh_live.proofs.threads.start_couriers.Goals as goal

abbrev OfCourier : (g : Over) → ℕ → Courier g.row.R.Denot g.row.S.Denot → Type 0
OfCourier g place courier = courier.number ≡ place + 1

pub loop-courier-init : goal.loop-courier-init
loop-courier-init g c =
    let gives = c.into_iter-courier-iterator.ensures.into_iter_gives in
    let none = c.in_ok-threads.ensures.items in
    record {
      len = omega (arith, gives.1, ap length gives.0, c.args.couriers.ok);
      total = omega (arith, ap length none, ap length gives.0, c.requires.couriers.0);
      left = from_none (OfCourier g) c.args.config.copies c.args.couriers.items _ c.in_ok-threads.threads.items none gives.0 c.requires.couriers;
      threads = first_none (λ place thread. MatchResult thread (λ handle. (handle.promise.number ≡ place + 1) × (handle.promise.config ≡ c.args.config) × (handle.promise.gate.value ≡ c.args.overseers.gate.now)) (λ fault. fault ≡ Memory)) c.in_ok-threads.threads.items none;
    }

pub loop-courier-preserved : goal.loop-courier-preserved
loop-courier-preserved g c =
    let was = c.loop-courier.invariant in
    let step = c.in-Some.ensures.steps in
    let made = c.loop-courier.threads.items in
    let new = c.push.new.self.items in
    let last = c.match-spawned.push in
    let more = c.in_ok-push.ensures.items in
    let OfWorker : Type 0 = Worker g.row.P.Denot g.row.G.Denot in
    let next = from_next (OfCourier g) (length made) c.in-Some.courier (into_iter_items c.loop-courier.courier-iterator) (into_iter_items c.next.new.self) step.0 was.left in
    let worker : MatchResult last (λ handle. (handle.promise.number ≡ length made + 1) × (handle.promise.config ≡ c.args.config) × (handle.promise.gate.value ≡ c.args.overseers.gate.now)) (λ fault. fault ≡ Memory) =
    elim c.match-spawned.branch [
      | in-Ok w ↦ subst (λ thread. MatchResult thread (λ handle. (handle.promise.number ≡ length made + 1) × (handle.promise.config ≡ c.args.config) × (handle.promise.gate.value ≡ c.args.overseers.gate.now)) (λ fault. fault ≡ Memory)) (sym w.push-is) (
        ap (λ (worker : OfWorker). worker.number) w.in-Ok.ensures.ok ∙ c.from.ensures ∙ next.0,
        ap (λ (worker : OfWorker). worker.config) w.in-Ok.ensures.ok,
        ap (λ (worker : OfWorker). worker.gate.value) w.in-Ok.ensures.ok ∙ c.of.ensures,
      )
      | in-Err w ↦ subst (λ thread. MatchResult thread (λ handle. (handle.promise.number ≡ length made + 1) × (handle.promise.config ≡ c.args.config) × (handle.promise.gate.value ≡ c.args.overseers.gate.now)) (λ fault. fault ≡ Memory)) (sym w.push-is) w.unmade.ensures
    ] in
    record {
      len = omega (arith, was.len, step.1, ap length step.0);
      total = total_more c.args.config.copies c.in-Some.courier _ _ made last new step.0 more was.total;
      left = from_more (OfCourier g) (into_iter_items c.next.new.self) made last new more next.1;
      threads = first_more (λ place thread. MatchResult thread (λ handle. (handle.promise.number ≡ place + 1) × (handle.promise.config ≡ c.args.config) × (handle.promise.gate.value ≡ c.args.overseers.gate.now)) (λ fault. fault ≡ Memory)) made last new more was.threads worker;
    }

pub loop-courier-smaller : goal.loop-courier-smaller
loop-courier-smaller g c = omega (arith, c.in-Some.ensures.steps.1)

pub returns-in_err-threads : goal.returns-in_err-threads
returns-in_err-threads g c = IfOk-from_err c.from_residual.result _ c.from_residual.ensures.0

pub returns-in_err-push : goal.returns-in_err-push
returns-in_err-push g c = IfOk-from_err c.from_residual-in_err-push.result _ c.from_residual-in_err-push.ensures.0

pub returns : goal.returns
returns g c =
    let was = c.loop-courier.invariant in
    let all : length c.loop-courier.threads.items ≡ c.args.config.copies = omega (arith, was.total, was.len, c.in-None.ensures.steps.0) in
    (all, was.threads.1)

pub spawn_with-spawned-requires-clause-keeps : goal.spawn_with-spawned-requires-clause-keeps
spawn_with-spawned-requires-clause-keeps g c = λ lifetimes outlive result post.
    let calls = c.args.config.calls in
    let gate = c.args.overseers.gate.now in
    let number = c.in-Some.courier.number in
    let fault : IfErr result.1 (IsCourierFault (g.G.Gate.may gate (COURIER_CLIENT + number)) calls) = search rules in
    kept_so (λ (of_gate : g.row.G.Denot) told. IsCourierFault (g.G.Gate.may of_gate (COURIER_CLIENT + told)) calls) gate c.of.result.value number c.from.result result.1 c.of.ensures c.from.ensures fault
