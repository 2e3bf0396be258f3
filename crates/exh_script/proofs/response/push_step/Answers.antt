use Rattle.std.proofs.Common.{◌≡◌, ◌≢◌, Err, inr, refl, sym, subst, arith, rules}
use Rattle.std.proofs.lemmas.Result.{IfOk-from_err}
use Rattle.exh_walk.specs.declared.step_fault.StepFault.TheVariants.{Ward}
use Rattle.exh_ward.specs.declared.ward_fault.WardFault.TheVariants.{Memory, Page}
use Rattle.exh_world.specs.WorldLaws.{HasVersionOfWord}
use Rattle.exh_line.specs.LineAnswer.{outcome_answer}
use Rattle.exh_line.specs.LineStart.{short_event}
use Rattle.exh_text.specs.TextLemmas.{keeps_all}
use Rattle.exh_script.proofs.Stepped.{after_memory, after_page, done_after, handed_memory, refused_after, told_done, told_refused, was_done, was_memory, was_page}
use Rattle.exh_script.proofs.response.push_step.Goals as goal

pub returns-in_ok-push_outcome-in-Ok-clause-text : goal.returns-in_ok-push_outcome-in-Ok-clause-text
returns-in_ok-push_outcome-in-Ok-clause-text g c =
    let is = c.in-Ok.is in
    let version : HasVersionOfWord c.make_step.result = search rules in
    let computed = c.steps_are_computed.ensures c.args.run.now.world (short_event c.args.step) c.make_step.result c.make_step.new.world c.requires version c.make_step.ensures.step in
    told_done c.args.run.now.world c.make_step.new.world (short_event c.args.step) c.make_step.result c.in-Ok.outcome is c.args.run.now.tells_moves c.args.out.now.items c.push_outcome.new.out.items (outcome_answer c.args.run.now.tells_moves (short_event c.args.step) c.in-Ok.outcome) computed refl c.in_ok-push_outcome-in-Ok.ensures.ok

pub returns-in_ok-push_outcome-in-Ok-clause-kept : goal.returns-in_ok-push_outcome-in-Ok-clause-kept
returns-in_ok-push_outcome-in-Ok-clause-kept g c = c.push_outcome.ensures.kept

pub returns-in_ok-push_outcome-in-Ok-clause-world : goal.returns-in_ok-push_outcome-in-Ok-clause-world
returns-in_ok-push_outcome-in-Ok-clause-world g c =
    let is = c.in-Ok.is in
    let version : HasVersionOfWord c.make_step.result = search rules in
    let computed = c.steps_are_computed.ensures c.args.run.now.world (short_event c.args.step) c.make_step.result c.make_step.new.world c.requires version c.make_step.ensures.step in
    done_after c.args.run.now.world c.make_step.new.world (short_event c.args.step) c.make_step.result c.in-Ok.outcome is computed

pub returns-in_ok-push_outcome-in-Ok-clause-sound : goal.returns-in_ok-push_outcome-in-Ok-clause-sound
returns-in_ok-push_outcome-in-Ok-clause-sound g c = c.make_step.ensures.sound

pub returns-in_ok-push_outcome-in-Ok-clause-telling : goal.returns-in_ok-push_outcome-in-Ok-clause-telling
returns-in_ok-push_outcome-in-Ok-clause-telling g c = refl

pub returns-in_ok-push_outcome-in-Ok-clause-silent : goal.returns-in_ok-push_outcome-in-Ok-clause-silent
returns-in_ok-push_outcome-in-Ok-clause-silent g c = was_done

pub returns-in_ok-push_outcome-in-Ok-clause-counted : goal.returns-in_ok-push_outcome-in-Ok-clause-counted
returns-in_ok-push_outcome-in-Ok-clause-counted g c = was_done

pub returns-in_ok-push_outcome-in-Ok-clause-memory : goal.returns-in_ok-push_outcome-in-Ok-clause-memory
returns-in_ok-push_outcome-in-Ok-clause-memory g c = was_done

pub returns-in_err-push_outcome-in-Ok-clause-text : goal.returns-in_err-push_outcome-in-Ok-clause-text
returns-in_err-push_outcome-in-Ok-clause-text g c = IfOk-from_err c.from_residual.result _ c.from_residual.ensures.0

pub returns-in_err-push_outcome-in-Ok-clause-kept : goal.returns-in_err-push_outcome-in-Ok-clause-kept
returns-in_err-push_outcome-in-Ok-clause-kept g c = c.push_outcome.ensures.kept

pub returns-in_err-push_outcome-in-Ok-clause-world : goal.returns-in_err-push_outcome-in-Ok-clause-world
returns-in_err-push_outcome-in-Ok-clause-world g c = IfOk-from_err c.from_residual.result _ c.from_residual.ensures.0

pub returns-in_err-push_outcome-in-Ok-clause-sound : goal.returns-in_err-push_outcome-in-Ok-clause-sound
returns-in_err-push_outcome-in-Ok-clause-sound g c = c.make_step.ensures.sound

pub returns-in_err-push_outcome-in-Ok-clause-telling : goal.returns-in_err-push_outcome-in-Ok-clause-telling
returns-in_err-push_outcome-in-Ok-clause-telling g c = refl

pub returns-in_err-push_outcome-in-Ok-clause-silent : goal.returns-in_err-push_outcome-in-Ok-clause-silent
returns-in_err-push_outcome-in-Ok-clause-silent g c = handed_memory c.from_residual.result c.from_residual.ensures

pub returns-in_err-push_outcome-in-Ok-clause-counted : goal.returns-in_err-push_outcome-in-Ok-clause-counted
returns-in_err-push_outcome-in-Ok-clause-counted g c = handed_memory c.from_residual.result c.from_residual.ensures

pub returns-in_err-push_outcome-in-Ok-clause-memory : goal.returns-in_err-push_outcome-in-Ok-clause-memory
returns-in_err-push_outcome-in-Ok-clause-memory g c =
    let is = c.in-Ok.is in
    let version : HasVersionOfWord c.make_step.result = search rules in
    let computed = c.steps_are_computed.ensures c.args.run.now.world (short_event c.args.step) c.make_step.result c.make_step.new.world c.requires version c.make_step.ensures.step in
    λ _. inr (done_after c.args.run.now.world c.make_step.new.world (short_event c.args.step) c.make_step.result c.in-Ok.outcome is computed)

pub returns-in-Err-Ward-Memory-clause-text : goal.returns-in-Err-Ward-Memory-clause-text
returns-in-Err-Ward-Memory-clause-text g c = tt

pub returns-in-Err-Ward-Memory-clause-kept : goal.returns-in-Err-Ward-Memory-clause-kept
returns-in-Err-Ward-Memory-clause-kept g c = keeps_all c.args.out.now.items

pub returns-in-Err-Ward-Memory-clause-world : goal.returns-in-Err-Ward-Memory-clause-world
returns-in-Err-Ward-Memory-clause-world g c = tt

pub returns-in-Err-Ward-Memory-clause-sound : goal.returns-in-Err-Ward-Memory-clause-sound
returns-in-Err-Ward-Memory-clause-sound g c = c.make_step.ensures.sound

pub returns-in-Err-Ward-Memory-clause-telling : goal.returns-in-Err-Ward-Memory-clause-telling
returns-in-Err-Ward-Memory-clause-telling g c = refl

pub returns-in-Err-Ward-Memory-clause-silent : goal.returns-in-Err-Ward-Memory-clause-silent
returns-in-Err-Ward-Memory-clause-silent g c = was_memory

pub returns-in-Err-Ward-Memory-clause-counted : goal.returns-in-Err-Ward-Memory-clause-counted
returns-in-Err-Ward-Memory-clause-counted g c = was_memory

pub returns-in-Err-Ward-Memory-clause-memory : goal.returns-in-Err-Ward-Memory-clause-memory
returns-in-Err-Ward-Memory-clause-memory g c =
    let is : c.make_step.result ≡ Err (Ward Memory) = first_of (search rules, grind arith) in
    λ _. after_memory c.args.run.now.world c.make_step.new.world (short_event c.args.step) c.make_step.result is (c.steps_are_computed.ensures c.args.run.now.world (short_event c.args.step) c.make_step.result c.make_step.new.world c.requires (subst HasVersionOfWord (sym is) tt) c.make_step.ensures.step)

pub returns-in-Err-Ward-Page-clause-text : goal.returns-in-Err-Ward-Page-clause-text
returns-in-Err-Ward-Page-clause-text g c = tt

pub returns-in-Err-Ward-Page-clause-kept : goal.returns-in-Err-Ward-Page-clause-kept
returns-in-Err-Ward-Page-clause-kept g c = keeps_all c.args.out.now.items

pub returns-in-Err-Ward-Page-clause-world : goal.returns-in-Err-Ward-Page-clause-world
returns-in-Err-Ward-Page-clause-world g c = tt

pub returns-in-Err-Ward-Page-clause-sound : goal.returns-in-Err-Ward-Page-clause-sound
returns-in-Err-Ward-Page-clause-sound g c = c.make_step.ensures.sound

pub returns-in-Err-Ward-Page-clause-telling : goal.returns-in-Err-Ward-Page-clause-telling
returns-in-Err-Ward-Page-clause-telling g c = refl

pub returns-in-Err-Ward-Page-clause-silent : goal.returns-in-Err-Ward-Page-clause-silent
returns-in-Err-Ward-Page-clause-silent g c = λ _. refl

pub returns-in-Err-Ward-Page-clause-counted : goal.returns-in-Err-Ward-Page-clause-counted
returns-in-Err-Ward-Page-clause-counted g c =
    let is : c.make_step.result ≡ Err (Ward Page) = first_of (search rules, grind arith) in
    λ _. after_page c.args.run.now.world c.make_step.new.world (short_event c.args.step) c.make_step.result is (c.page_faults_are_counted.ensures c.args.run.now.world (short_event c.args.step) c.make_step.result c.make_step.new.world c.make_step.ensures.step)

pub returns-in-Err-Ward-Page-clause-memory : goal.returns-in-Err-Ward-Page-clause-memory
returns-in-Err-Ward-Page-clause-memory g c = was_page

pub returns-in_ok-push_refusal-in-Err-clause-text : goal.returns-in_ok-push_refusal-in-Err-clause-text
returns-in_ok-push_refusal-in-Err-clause-text g c =
    let memory : c.in-Err.fault ≢ Ward Memory = search rules in
    let page : c.in-Err.fault ≢ Ward Page = search rules in
    let computed = c.steps_are_computed.ensures c.args.run.now.world (short_event c.args.step) c.make_step.result c.make_step.new.world c.requires (subst HasVersionOfWord (sym c.in-Err.is) tt) c.make_step.ensures.step in
    told_refused c.args.run.now.world c.make_step.new.world (short_event c.args.step) c.make_step.result c.in-Err.fault c.in-Err.is memory page c.args.run.now.tells_moves c.args.out.now.items c.push_refusal.new.out.items c.into.result computed c.into.ensures c.in_ok-push_refusal-in-Err.ensures.ok

pub returns-in_ok-push_refusal-in-Err-clause-kept : goal.returns-in_ok-push_refusal-in-Err-clause-kept
returns-in_ok-push_refusal-in-Err-clause-kept g c = c.push_refusal.ensures.kept

pub returns-in_ok-push_refusal-in-Err-clause-world : goal.returns-in_ok-push_refusal-in-Err-clause-world
returns-in_ok-push_refusal-in-Err-clause-world g c =
    let memory : c.in-Err.fault ≢ Ward Memory = search rules in
    let page : c.in-Err.fault ≢ Ward Page = search rules in
    let computed = c.steps_are_computed.ensures c.args.run.now.world (short_event c.args.step) c.make_step.result c.make_step.new.world c.requires (subst HasVersionOfWord (sym c.in-Err.is) tt) c.make_step.ensures.step in
    refused_after c.args.run.now.world c.make_step.new.world (short_event c.args.step) c.make_step.result c.in-Err.fault c.in-Err.is memory page computed

pub returns-in_ok-push_refusal-in-Err-clause-sound : goal.returns-in_ok-push_refusal-in-Err-clause-sound
returns-in_ok-push_refusal-in-Err-clause-sound g c = c.make_step.ensures.sound

pub returns-in_ok-push_refusal-in-Err-clause-telling : goal.returns-in_ok-push_refusal-in-Err-clause-telling
returns-in_ok-push_refusal-in-Err-clause-telling g c = refl

pub returns-in_ok-push_refusal-in-Err-clause-silent : goal.returns-in_ok-push_refusal-in-Err-clause-silent
returns-in_ok-push_refusal-in-Err-clause-silent g c = was_done

pub returns-in_ok-push_refusal-in-Err-clause-counted : goal.returns-in_ok-push_refusal-in-Err-clause-counted
returns-in_ok-push_refusal-in-Err-clause-counted g c = was_done

pub returns-in_ok-push_refusal-in-Err-clause-memory : goal.returns-in_ok-push_refusal-in-Err-clause-memory
returns-in_ok-push_refusal-in-Err-clause-memory g c = was_done

pub returns-in_err-push_refusal-in-Err-clause-text : goal.returns-in_err-push_refusal-in-Err-clause-text
returns-in_err-push_refusal-in-Err-clause-text g c = IfOk-from_err c.from_residual-in_err-push_refusal-in-Err.result _ c.from_residual-in_err-push_refusal-in-Err.ensures.0

pub returns-in_err-push_refusal-in-Err-clause-kept : goal.returns-in_err-push_refusal-in-Err-clause-kept
returns-in_err-push_refusal-in-Err-clause-kept g c = c.push_refusal.ensures.kept

pub returns-in_err-push_refusal-in-Err-clause-world : goal.returns-in_err-push_refusal-in-Err-clause-world
returns-in_err-push_refusal-in-Err-clause-world g c =
    IfOk-from_err c.from_residual-in_err-push_refusal-in-Err.result _ c.from_residual-in_err-push_refusal-in-Err.ensures.0

pub returns-in_err-push_refusal-in-Err-clause-sound : goal.returns-in_err-push_refusal-in-Err-clause-sound
returns-in_err-push_refusal-in-Err-clause-sound g c = c.make_step.ensures.sound

pub returns-in_err-push_refusal-in-Err-clause-telling : goal.returns-in_err-push_refusal-in-Err-clause-telling
returns-in_err-push_refusal-in-Err-clause-telling g c = refl

pub returns-in_err-push_refusal-in-Err-clause-silent : goal.returns-in_err-push_refusal-in-Err-clause-silent
returns-in_err-push_refusal-in-Err-clause-silent g c = handed_memory c.from_residual-in_err-push_refusal-in-Err.result c.from_residual-in_err-push_refusal-in-Err.ensures

pub returns-in_err-push_refusal-in-Err-clause-counted : goal.returns-in_err-push_refusal-in-Err-clause-counted
returns-in_err-push_refusal-in-Err-clause-counted g c = handed_memory c.from_residual-in_err-push_refusal-in-Err.result c.from_residual-in_err-push_refusal-in-Err.ensures

pub returns-in_err-push_refusal-in-Err-clause-memory : goal.returns-in_err-push_refusal-in-Err-clause-memory
returns-in_err-push_refusal-in-Err-clause-memory g c =
    let memory : c.in-Err.fault ≢ Ward Memory = search rules in
    let page : c.in-Err.fault ≢ Ward Page = search rules in
    let computed = c.steps_are_computed.ensures c.args.run.now.world (short_event c.args.step) c.make_step.result c.make_step.new.world c.requires (subst HasVersionOfWord (sym c.in-Err.is) tt) c.make_step.ensures.step in
    λ _. inr (refused_after c.args.run.now.world c.make_step.new.world (short_event c.args.step) c.make_step.result c.in-Err.fault c.in-Err.is memory page computed)
