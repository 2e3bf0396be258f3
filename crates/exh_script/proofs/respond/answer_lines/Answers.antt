use Rattle.std.proofs.Common.{[], ◌∷◌, ◌∙◌, ◌++◌, refl, sym, ap, subst, append-nil, append_assoc, rules}
use Rattle.std.proofs.lemmas.Result.{IfOk-from_err}
use Rattle.exh_stream.specs.Output.{Takes}
use Rattle.exh_stream.specs.OutputLemmas.{OnErr-from, Takes-none}
use Rattle.exh_script.specs.Text.{line_response, response_text, text_from}
use Rattle.exh_script.specs.declared.serve_fault.ServeFault.TheVariants.{Write}
use Rattle.exh_script.proofs.KeptCounts.{falls_by_none, falls_on, more_before}
use Rattle.exh_script.proofs.Responded.{stopped, line_is, text_of_next, line_out, line_stopped, LeadTo-none, LeadTo-more, text_of_left, text_of_more, world_of_all}
use Rattle.exh_script.proofs.ServedLemmas.{IfCut-from, IfCut-handed, page_handed}
use Rattle.exh_script.proofs.respond.answer_lines.Goals as goal

pub loop-line-init : goal.loop-line-init
loop-line-init g c = record {
  same_writer = refl;
  open_still = c.requires.open;
  sound = c.requires.sound;
  answered = [];
  split = sym c.into_iter-line-iterator.ensures.into_iter_gives;
  telling = refl;
  falls = falls_by_none c.args.run.now.world;
  lead = LeadTo-none c.args.run.now.tells_moves c.args.run.now.world;
  passed = Takes-none g.W.Write.contents c.args.output.now;
}

pub returns-in_err-push_line-clause-err : goal.returns-in_err-push_line-clause-err
returns-in_err-push_line-clause-err g c =
    let i = c.loop-line.invariant in
    OnErr-from c.from_residual.result (stopped g.W.Write.contents c.args.output.now c.loop-line.output _ _ _ i.passed (text_of_left _ _ _ i.answered i.lead _ _ i.split))

pub returns-in_err-push_line-clause-front : goal.returns-in_err-push_line-clause-front
returns-in_err-push_line-clause-front g c =
    let i = c.loop-line.invariant in
    IfCut-from c.from_residual.result (record { front = i.answered; rest = c.loop-line.line-iterator; split = i.split; text = i.passed })

pub loop-line-preserved : goal.loop-line-preserved
loop-line-preserved g c =
    let i = c.loop-line.invariant in
    let tells = c.args.run.now.tells_moves in
    let new = c.args.run.now.world in
    let line = c.in-Some.line.now in
    let text = response_text (line_response tells c.loop-line.run.world line) in
    let whole = text_of_left tells new _ i.answered i.lead _ _ i.split in
    let split = text_of_next tells c.loop-line.run.world c.push_line.new.run.world c.loop-line.line-iterator c.next.new.self line c.in-Some.ensures.steps c.in_ok-push_line.ensures.world in
    let is = line_is tells c.loop-line.run.tells_moves c.loop-line.run.world line c.clear.new.self.items c.push_line.new.out.items c.deref.result.now i.telling c.clear.ensures.items c.in_ok-push_line.ensures.text c.deref.ensures.value in
    record {
      same_writer = c.in_ok-push.ensures.same_writer ∙ i.same_writer;
      open_still = search rules;
      sound = c.push_line.ensures.sound;
      telling = c.push_line.ensures.telling ∙ i.telling;
      falls = falls_on c.args.run.now.world c.loop-line.run.world c.push_line.new.run.world i.falls c.in_ok-push_line.ensures.falls;
      answered = i.answered ++ line ∷ [];
      split = i.split ∙ ap (λ l. i.answered ++ l) c.in-Some.ensures.steps ∙ sym (append_assoc i.answered (line ∷ []) c.next.new.self);
      lead = LeadTo-more tells new c.loop-line.run.world i.answered i.lead line c.push_line.new.run.world c.in_ok-push_line.ensures.world;
      passed = subst (Takes g.W.Write.contents c.args.output.now c.push.new.self) (sym (text_of_more tells new c.loop-line.run.world i.answered i.lead line))
          (line_out g.W.Write.contents c.args.output.now c.loop-line.output c.push.new.self (text_from tells new i.answered) _ _ text (text_from tells c.push_line.new.run.world c.next.new.self) _ i.passed whole split is c.in_ok-push.ensures.ok);
    }

pub returns-in_err-push-clause-err : goal.returns-in_err-push-clause-err
returns-in_err-push-clause-err g c =
    let i = c.loop-line.invariant in
    let tells = c.args.run.now.tells_moves in
    let line = response_text (line_response tells c.loop-line.run.world c.in-Some.line.now) in
    let more = text_from tells c.push_line.new.run.world c.next.new.self in
    let whole = text_of_left tells (c.args.run.now.world) _ i.answered i.lead _ _ i.split in
    let split = text_of_next tells c.loop-line.run.world c.push_line.new.run.world c.loop-line.line-iterator c.next.new.self c.in-Some.line.now c.in-Some.ensures.steps c.in_ok-push_line.ensures.world in
    let is = line_is tells c.loop-line.run.tells_moves c.loop-line.run.world c.in-Some.line.now c.clear.new.self.items c.push_line.new.out.items c.deref.result.now i.telling c.clear.ensures.items c.in_ok-push_line.ensures.text c.deref.ensures.value in
    OnErr-from c.from_residual-in_err-push.result (line_stopped g.W.Write.contents c.args.output.now c.loop-line.output c.push.new.self _ _ _ line more _ i.passed whole split is c.in_err-push.ensures.err)

pub returns-clause-world : goal.returns-clause-world
returns-clause-world g c =
    let i = c.loop-line.invariant in
    let none = c.in-None.ensures.steps.0 in
    world_of_all c.args.run.now.tells_moves c.args.run.now.world c.loop-line.run.world i.answered i.lead c.loop-line.line-iterator c.args.lines i.split none

pub returns-clause-same_writer : goal.returns-clause-same_writer
returns-clause-same_writer g c = c.loop-line.invariant.same_writer

pub returns-clause-err : goal.returns-clause-err
returns-clause-err g c = tt

pub returns-clause-front : goal.returns-clause-front
returns-clause-front g c = tt

pub returns-clause-ok : goal.returns-clause-ok
returns-clause-ok g c =
    let i = c.loop-line.invariant in
    let tells = c.args.run.now.tells_moves in
    let new = c.args.run.now.world in
    let told = text_from tells new i.answered in
    let is = sym (append-nil told) ∙ ap (λ left. told ++ text_from tells c.loop-line.run.world left) (sym c.in-None.ensures.steps.0) ∙ text_of_left tells new _ i.answered i.lead _ _ i.split in
    subst (Takes g.W.Write.contents c.args.output.now c.loop-line.output) is i.passed

pub returns-in_err-push_line-clause-same_writer : goal.returns-in_err-push_line-clause-same_writer
returns-in_err-push_line-clause-same_writer g c = c.loop-line.invariant.same_writer

pub returns-in_err-push_line-clause-ok : goal.returns-in_err-push_line-clause-ok
returns-in_err-push_line-clause-ok g c = IfOk-from_err c.from_residual.result _ c.from_residual.ensures.0

pub returns-in_err-push_line-clause-world : goal.returns-in_err-push_line-clause-world
returns-in_err-push_line-clause-world g c = IfOk-from_err c.from_residual.result _ c.from_residual.ensures.0

pub returns-in_err-push-clause-same_writer : goal.returns-in_err-push-clause-same_writer
returns-in_err-push-clause-same_writer g c = c.push.ensures.same_writer ∙ c.loop-line.invariant.same_writer

pub returns-in_err-push-clause-ok : goal.returns-in_err-push-clause-ok
returns-in_err-push-clause-ok g c = IfOk-from_err c.from_residual-in_err-push.result _ c.from_residual-in_err-push.ensures.0

pub returns-in_err-push-clause-world : goal.returns-in_err-push-clause-world
returns-in_err-push-clause-world g c = IfOk-from_err c.from_residual-in_err-push.result _ c.from_residual-in_err-push.ensures.0

pub returns-in_err-push-clause-front : goal.returns-in_err-push-clause-front
returns-in_err-push-clause-front g c = IfCut-handed c.from_residual-in_err-push.result Write c.from_residual-in_err-push.ensures (λ differs. absurd (differs refl))

pub push_line-requires : goal.push_line-requires
push_line-requires g c = c.loop-line.invariant.sound

pub returns-in_err-push_line-clause-counted : goal.returns-in_err-push_line-clause-counted
returns-in_err-push_line-clause-counted g c =
    page_handed c.from_residual.result c.in_err-push_line.field-0.0 c.from_residual.ensures
    (λ page. more_before g.P.Pages.failures c.args.run.now.world c.loop-line.run.world c.loop-line.invariant.falls (c.in_err-push_line.ensures.counted page))
