use Rattle.std.proofs.Common.{rules, ◌≡◌, ◌+◌, ◌*◌, ◌%◌, ◌^◌, ap, sym, ◌∙◌, subst, IfErr, arith}
use Rattle.std.specs.Prelude.{MatchResult}
use Rattle.std.proofs.lemmas.Nat.{shl_whole}
use Rattle.std.proofs.lemmas.Result.{IfOk-from_err}
use Rattle.exh_live.specs.CursorPlaceLemmas.{AreFirst, one_more}
use Rattle.exh_live.specs.Refusals.{HasCounted}
use Rattle.exh_live.specs.StormRounds.{IsKeeperFault}
use Rattle.exh_live.specs.declared.fault.StormFault.TheVariants.{Memory}
use Rattle.exh_live.specs.declared.keeper.TheConstants.{KEEPER_CLIENT}
use Rattle.exh_live.specs.declared.threads.Worker.{Worker}
use Rattle.exh_live.proofs.FirstRefusals.{kept_so, none_first_yet}
use Rattle.exh_live.proofs.RoundsOn.{so_many}
use Rattle.exh_live.proofs.threads.start_keepers.Goals.{in-Ok, in-Err}
use Rattle.exh_live.proofs.threads.start_keepers.Goals as goal

pub loop-ward-init : goal.loop-ward-init
loop-ward-init g c = none_first_yet (λ place thread. MatchResult thread (λ handle. (handle.promise.number ≡ place) × (handle.promise.config ≡ c.args.config) × (handle.promise.gate.value ≡ c.args.overseers.gate.now)) (λ fault. fault ≡ Memory)) c.in_ok-threads.threads.items c.in_ok-threads.ensures.items

pub loop-ward-preserved : goal.loop-ward-preserved
loop-ward-preserved g c =
    let OfWorker : Type 0 = Worker g.row.P.Denot g.row.G.Denot in
    let place = c.loop-ward.ward in
    let last = c.match-spawned.push in
    let worker : MatchResult last (λ handle. (handle.promise.number ≡ place) × (handle.promise.config ≡ c.args.config) × (handle.promise.gate.value ≡ c.args.overseers.gate.now)) (λ fault. fault ≡ Memory) =
    elim c.match-spawned.branch [
      | in-Ok w ↦ subst (λ thread. MatchResult thread (λ handle. (handle.promise.number ≡ place) × (handle.promise.config ≡ c.args.config) × (handle.promise.gate.value ≡ c.args.overseers.gate.now)) (λ fault. fault ≡ Memory)) (sym w.push-is) (
        ap (λ (worker : OfWorker). worker.number) w.in-Ok.ensures.ok ∙ c.from.ensures,
        ap (λ (worker : OfWorker). worker.config) w.in-Ok.ensures.ok,
        ap (λ (worker : OfWorker). worker.gate.value) w.in-Ok.ensures.ok ∙ c.of.ensures,
      )
      | in-Err w ↦ subst (λ thread. MatchResult thread (λ handle. (handle.promise.number ≡ place) × (handle.promise.config ≡ c.args.config) × (handle.promise.gate.value ≡ c.args.overseers.gate.now)) (λ fault. fault ≡ Memory)) (sym w.push-is) w.unmade.ensures
    ] in
    one_more (λ at thread. MatchResult thread (λ handle. (handle.promise.number ≡ at) × (handle.promise.config ≡ c.args.config) × (handle.promise.gate.value ≡ c.args.overseers.gate.now)) (λ fault. fault ≡ Memory)) place c.loop-ward.threads.items last c.push.new.self.items c.loop-ward.invariant worker c.in_ok-push.ensures.items

pub returns-in_err-threads : goal.returns-in_err-threads
returns-in_err-threads g c = IfOk-from_err c.from_residual.result _ c.from_residual.ensures.0

pub returns-in_err-push : goal.returns-in_err-push
returns-in_err-push g c = IfOk-from_err c.from_residual-in_err-push.result _ c.from_residual-in_err-push.ensures.0

pub returns : goal.returns
returns g c =
    let bits = c.args.config.ward_bits in
    let whole : (1 * 2 ^ bits) % 2 ^ 8 ≡ 2 ^ bits = omega (arith, shl_whole 1 1 bits 8 (omega arith) (omega (arith, c.requires.limit))) in
    subst (λ count. AreFirst (λ place thread. MatchResult thread (λ handle. (handle.promise.number ≡ place) × (handle.promise.config ≡ c.args.config) × (handle.promise.gate.value ≡ c.args.overseers.gate.now)) (λ fault. fault ≡ Memory)) count c.loop-ward.threads.items) (so_many c.loop-ward-test.false c.loop-ward.auto.ward-end ∙ whole) c.loop-ward.invariant

pub spawn_with-spawned-requires-clause-keeps : goal.spawn_with-spawned-requires-clause-keeps
spawn_with-spawned-requires-clause-keeps g c = λ lifetimes outlive result post.
    let counted : Type 0 = HasCounted g.P.Pages.failures in
    let calls = c.args.config.calls in
    let gate = c.args.overseers.gate.now in
    let ward = c.loop-ward.ward in
    let fault : IfErr result (IsKeeperFault counted (g.G.Gate.may gate (KEEPER_CLIENT + ward)) calls) = search rules in
    kept_so (λ (of_gate : g.row.G.Denot) number. IsKeeperFault counted (g.G.Gate.may of_gate (KEEPER_CLIENT + number)) calls) gate c.of.result.value ward c.from.result result c.of.ensures c.from.ensures fault
