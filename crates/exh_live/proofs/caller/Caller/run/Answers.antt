use Rattle.std.proofs.Common.{◌≡◌, ℕ, List, [], ap, refl, sym, subst, ◌+◌, ◌∙◌, arith}
use Rattle.std.proofs.lemmas.Option.{slice_get_within}
use Rattle.std.proofs.lemmas.Result.{IfOk-from_err}
use Rattle.exh_calls.specs.declared.diary_entry.DiaryEntry.{DiaryEntry}
use Rattle.exh_ward.specs.declared.ward_fault.WardFault.TheVariants.{Page as OutOfReach}
use Rattle.exh_live.specs.Refused.{IsSomeWardsFault}
use Rattle.exh_live.specs.StormCalls.{AreStormCalls, storm_call}
use Rattle.exh_live.proofs.Calls.{one_call_more}
use Rattle.exh_live.proofs.RoundsOn.{caller_refused, so_many}
use Rattle.exh_live.proofs.caller.Caller.run.Goals as goal

none_called : (client : ℕ) (entries : List DiaryEntry) → entries ≡ [] → AreStormCalls client 0 entries
none_called client entries none = subst (AreStormCalls client 0) (sym none) (refl, λ place entry at. absurd (omega (arith, slice_get_within [] place entry at)))

pub loop-done-init : goal.loop-done-init
loop-done-init g c = (c.client-client.ensures.client ∙ c.diary.ensures.0, none_called c.client-client.result c.args.self.seat.entries c.args.self.fresh)

pub loop-done-preserved : goal.loop-done-preserved
loop-done-preserved g c =
    one_call_more c.client-client.result c.loop-done.done c.loop-done.seat c.ask.new.seat c.storm_call-call.result c.in_ok-ask.field-0 c.loop-done.invariant c.storm_call-call.ensures c.in_ok-ask.ensures.ok

pub returns-in_err-ask-clause-fault : goal.returns-in_err-ask-clause-fault
returns-in_err-ask-clause-fault g c =
    let own = c.client-client.ensures.client ∙ c.diary.ensures.0 in
    let call = c.storm_call-call.ensures ∙ ap (λ client. storm_call client (c.loop-done.done + 1)) own in
    caller_refused (IsSomeWardsFault g.P.Pages.failures g.K.Keyer.pseudokey_of OutOfReach) g.K.Keyer.pseudokey_of g.F.Identity.hashing g.S.Start.table g.S.Start.ward_bits (g.G.Gate.may c.args.gate.now) c.args.self.seat.client c.loop-done.seat.client c.loop-done.done c.args.calls c.storm_call-call.result c.loop-done.copy c.ask.new.copy
    c.in_err-ask.field-0.0 c.from_residual.result (sym c.loop-done.invariant.0 ∙ own) call (omega (arith, c.loop-done-test.true)) c.in_err-ask.ensures.walk c.from_residual.ensures c.in_err-ask.ensures.counted

pub returns-in_err-ask-clause-served : goal.returns-in_err-ask-clause-served
returns-in_err-ask-clause-served g c = IfOk-from_err c.from_residual.result _ c.from_residual.ensures.0

pub returns-in_err-ask-clause-client : goal.returns-in_err-ask-clause-client
returns-in_err-ask-clause-client g c = IfOk-from_err c.from_residual.result _ c.from_residual.ensures.0

pub returns-clause-served : goal.returns-clause-served
returns-clause-served g c =
    let entries = c.loop-done.seat.entries in
    let all = subst (λ done. AreStormCalls c.client-client.result done entries) (so_many c.loop-done-test.false c.loop-done.auto.done-end) c.loop-done.invariant.1 in
    subst (λ client. AreStormCalls client c.args.calls entries) c.loop-done.invariant.0 all

pub returns-clause-client : goal.returns-clause-client
returns-clause-client g c = sym c.loop-done.invariant.0 ∙ c.client-client.ensures.client ∙ c.diary.ensures.0

pub returns-clause-fault : goal.returns-clause-fault
returns-clause-fault g c = tt
