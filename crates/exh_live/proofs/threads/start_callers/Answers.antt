use Rattle.std.proofs.Common.{rules, ◌≡◌, ℕ, ◌+◌, ap, sym, ◌∙◌, length, subst, IfErr, IfOk, arith}
use Rattle.std.specs.Prelude.{MatchResult}
use Rattle.std.specs.Vec.Iter.{into_iter_items}
use Rattle.std.proofs.lemmas.Result.{IfOk-from_err}
use Rattle.exh_live.specs.declared.caller.Caller.{Caller}
use Rattle.exh_live.specs.declared.fault.StormFault.TheVariants.{Memory}
use Rattle.exh_live.specs.declared.threads.Worker.{Worker}
use Rattle.std.specs.FinMap as finite
use Rattle.exh_keyer.specs.Pseudokey.{sha_pseudokey}
use Rattle.exh_keyer.specs.declared.sha_keyer.ShaKeyer.{ShaKeyer}
use Rattle.exh_live.specs.Refusals.{HasCounted}
use Rattle.exh_live.specs.StormCalls.{IsServed}
use Rattle.exh_live.specs.StormRounds.{IsCallerFault}
use Rattle.exh_live.proofs.FirstRefusals.{caller_kept, first_more, first_none, from_more, from_next, from_none, kept_so, total_more}
use Rattle.exh_live.proofs.threads.start_callers.Given.{Over}
use Rattle.exh_live.proofs.threads.start_callers.Goals.{in-Ok, in-Err}
use Rattle.exh_live.proofs.threads.start_callers.Goals as goal

abbrev OfCaller : (g : Over) → ℕ → Caller g.row.F.Denot g.row.S.Denot g.F.Identity → Type 0
OfCaller g place caller = caller.seat.client ≡ place + 1

pub loop-caller-init : goal.loop-caller-init
loop-caller-init g c =
    let gives = c.into_iter-caller-iterator.ensures.into_iter_gives in
    let none = c.in_ok-threads.ensures.items in
    record {
      len = omega (arith, gives.1, ap length gives.0, c.args.callers.ok);
      total = omega (arith, ap length none, ap length gives.0, c.requires.callers.0);
      left = from_none (OfCaller g) c.args.config.callers c.args.callers.items _ c.in_ok-threads.threads.items none gives.0 c.requires.callers;
      threads = first_none (λ place thread. MatchResult thread (λ handle. (handle.promise.number ≡ place + 1) × (handle.promise.config ≡ c.args.config) × (handle.promise.gate.value ≡ c.args.overseers.gate.now)) (λ fault. fault ≡ Memory)) c.in_ok-threads.threads.items none;
    }

pub loop-caller-preserved : goal.loop-caller-preserved
loop-caller-preserved g c =
    let was = c.loop-caller.invariant in
    let step = c.in-Some.ensures.steps in
    let made = c.loop-caller.threads.items in
    let new = c.push.new.self.items in
    let last = c.match-spawned.push in
    let more = c.in_ok-push.ensures.items in
    let OfWorker : Type 0 = Worker g.row.P.Denot g.row.G.Denot in
    let next = from_next (OfCaller g) (length made) c.in-Some.caller (into_iter_items c.loop-caller.caller-iterator) (into_iter_items c.next.new.self) step.0 was.left in
    let worker : MatchResult last (λ handle. (handle.promise.number ≡ length made + 1) × (handle.promise.config ≡ c.args.config) × (handle.promise.gate.value ≡ c.args.overseers.gate.now)) (λ fault. fault ≡ Memory) =
    elim c.match-spawned.branch [
      | in-Ok w ↦ subst (λ thread. MatchResult thread (λ handle. (handle.promise.number ≡ length made + 1) × (handle.promise.config ≡ c.args.config) × (handle.promise.gate.value ≡ c.args.overseers.gate.now)) (λ fault. fault ≡ Memory)) (sym w.push-is) (
        ap (λ (worker : OfWorker). worker.number) w.in-Ok.ensures.ok ∙ c.client.ensures.client ∙ c.diary.ensures.0 ∙ next.0,
        ap (λ (worker : OfWorker). worker.config) w.in-Ok.ensures.ok,
        ap (λ (worker : OfWorker). worker.gate.value) w.in-Ok.ensures.ok ∙ c.of.ensures,
      )
      | in-Err w ↦ subst (λ thread. MatchResult thread (λ handle. (handle.promise.number ≡ length made + 1) × (handle.promise.config ≡ c.args.config) × (handle.promise.gate.value ≡ c.args.overseers.gate.now)) (λ fault. fault ≡ Memory)) (sym w.push-is) w.unmade.ensures
    ] in
    record {
      len = omega (arith, was.len, step.1, ap length step.0);
      total = total_more c.args.config.callers c.in-Some.caller _ _ made last new step.0 more was.total;
      left = from_more (OfCaller g) (into_iter_items c.next.new.self) made last new more next.1;
      threads = first_more (λ place thread. MatchResult thread (λ handle. (handle.promise.number ≡ place + 1) × (handle.promise.config ≡ c.args.config) × (handle.promise.gate.value ≡ c.args.overseers.gate.now)) (λ fault. fault ≡ Memory)) made last new more was.threads worker;
    }

pub loop-caller-smaller : goal.loop-caller-smaller
loop-caller-smaller g c = omega (arith, c.in-Some.ensures.steps.1)

pub returns-in_err-threads : goal.returns-in_err-threads
returns-in_err-threads g c = IfOk-from_err c.from_residual.result _ c.from_residual.ensures.0

pub returns-in_err-push : goal.returns-in_err-push
returns-in_err-push g c = IfOk-from_err c.from_residual-in_err-push.result _ c.from_residual-in_err-push.ensures.0

pub returns : goal.returns
returns g c =
    let was = c.loop-caller.invariant in
    let all : length c.loop-caller.threads.items ≡ c.args.config.callers = omega (arith, was.total, was.len, c.in-None.ensures.steps.0) in
    (all, was.threads.1)

pub spawn_with-spawned-requires-clause-keeps : goal.spawn_with-spawned-requires-clause-keeps
spawn_with-spawned-requires-clause-keeps g c = λ lifetimes outlive result post.
    let counted : Type 0 = HasCounted g.P.Pages.failures in
    let calls = c.args.config.calls in
    let gate = c.args.overseers.gate.now in
    let client = c.in-Some.caller.seat.client in
    let served : IfOk result (IsServed calls) = search rules in
    let fault : IfErr result (IsCallerFault {K = ShaKeyer} counted (λ keyer key. sha_pseudokey key) g.F.Identity.hashing g.S.Start.table g.S.Start.ward_bits (g.G.Gate.may gate client) client calls) = search rules in
    let kept = caller_kept counted g.F.Identity.hashing g.S.Start.table g.S.Start.ward_bits c.args.config.ward_bits (g.G.Gate.may gate client) client calls result c.requires.hashed c.requires.copies.1 c.requires.copies.0 fault in (
      served,
      kept_so (λ (of_gate : g.row.G.Denot) number. IsCallerFault {K = ShaKeyer} counted (λ keyer key. sha_pseudokey key) sha_pseudokey finite.empty c.args.config.ward_bits (g.G.Gate.may of_gate number) number calls)
          gate c.of.result.value client c.client.result result c.of.ensures (c.client.ensures.client ∙ c.diary.ensures.0) kept,
    )
