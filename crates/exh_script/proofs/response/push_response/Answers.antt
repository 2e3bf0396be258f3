use Rattle.std.proofs.Common.{◌≡◌, ◌⊎◌, ◌++◌, IfSome, OnOk, Option, Some, sym, ap, ◌∙◌, refl, subst}
use Rattle.std.specs.Prelude.{IsErrOf}
use Rattle.exh_line.specs.Grammar.{line_of}
use Rattle.exh_line.specs.LineStart.{IsStartOf, short_event}
use Rattle.exh_line.specs.declared.line.Line.TheVariants.{Step}
use Rattle.exh_line.specs.declared.line_start.LineStart.{LineStart}
use Rattle.exh_line.specs.declared.line_start.LineStart.TheVariants.{Step as Started}
use Rattle.exh_script.specs.Text.{after_line, after_parsed, line_response, parsed_response, response_text}
use Rattle.exh_script.specs.declared.response_fault.ResponseFault.TheVariants.{Memory}
use Rattle.exh_script.proofs.OtherLines.{left_others, left_others_of}
use Rattle.exh_script.proofs.response.push_response.Goals as goal

pub returns-in-Some-Step-clause-others : goal.returns-in-Some-Step-clause-others
returns-in-Some-Step-clause-others g c =
    let P : Option LineStart → Type 0 = λ start. IfSome start (IsStartOf c.args.line.now) in
    let started : IsStartOf c.args.line.now (Started c.in-Some-Step.step) = subst P (c.in-Some-Step.is ∙ ap Some c.in-Some-Step.field-0-is) c.parse.ensures in
    left_others_of c.lines_go_alike.ensures _ c.args.run.now.world c.args.line.now (line_of c.args.line.now) (Step (short_event c.in-Some-Step.step)) refl started
    c.push_step.result c.push_step.new.run.world c.push_step.ensures.counted c.push_step.ensures.memory

pub returns-in-Some-Begin-clause-others : goal.returns-in-Some-Begin-clause-others
returns-in-Some-Begin-clause-others g c =
    left_others c.lines_go_alike.ensures _ c.args.run.now.world c.args.line.now c.push_begun.result c.push_begun.new.run.world c.push_begun.ensures.counted c.push_begun.ensures.memory

pub returns-in-None-clause-others : goal.returns-in-None-clause-others
returns-in-None-clause-others g c =
    left_others c.lines_go_alike.ensures _ c.args.run.now.world c.args.line.now c.push_parsed.result c.push_parsed.new.run.world c.push_parsed.ensures.counted c.push_parsed.ensures.memory

pub returns-in-Some-Step-clause-text : goal.returns-in-Some-Step-clause-text
unfolding line_response
returns-in-Some-Step-clause-text g c =
    let P : Option LineStart → Type 0 = λ start. IfSome start (IsStartOf c.args.line.now) in
    let started : IsStartOf c.args.line.now (Started c.in-Some-Step.step) = subst P (c.in-Some-Step.is ∙ ap Some c.in-Some-Step.field-0-is) c.parse.ensures in
    subst (λ line. OnOk c.push_step.result (c.push_step.new.out.items ≡ c.args.out.now.items ++ response_text (parsed_response c.args.run.now.tells_moves c.args.run.now.world line))) (sym started) c.push_step.ensures.text

pub returns-in-Some-Step-clause-world : goal.returns-in-Some-Step-clause-world
unfolding after_line
returns-in-Some-Step-clause-world g c =
    let P : Option LineStart → Type 0 = λ start. IfSome start (IsStartOf c.args.line.now) in
    let started : IsStartOf c.args.line.now (Started c.in-Some-Step.step) = subst P (c.in-Some-Step.is ∙ ap Some c.in-Some-Step.field-0-is) c.parse.ensures in
    subst (λ line. OnOk c.push_step.result (c.push_step.new.run.world ≡ after_parsed c.args.run.now.world line)) (sym started) c.push_step.ensures.world

pub returns-in-Some-Step-clause-memory : goal.returns-in-Some-Step-clause-memory
unfolding after_line
returns-in-Some-Step-clause-memory g c =
    let P : Option LineStart → Type 0 = λ start. IfSome start (IsStartOf c.args.line.now) in
    let started : IsStartOf c.args.line.now (Started c.in-Some-Step.step) = subst P (c.in-Some-Step.is ∙ ap Some c.in-Some-Step.field-0-is) c.parse.ensures in
    subst (λ line. IsErrOf c.push_step.result Memory → (c.push_step.new.run.world ≡ c.args.run.now.world) ⊎ (c.push_step.new.run.world ≡ after_parsed c.args.run.now.world line)) (sym started) c.push_step.ensures.memory

pub returns-in-Some-Step-clause-kept : goal.returns-in-Some-Step-clause-kept
returns-in-Some-Step-clause-kept g c = c.push_step.ensures.kept

pub returns-in-Some-Step-clause-sound : goal.returns-in-Some-Step-clause-sound
returns-in-Some-Step-clause-sound g c = c.push_step.ensures.sound

pub returns-in-Some-Step-clause-telling : goal.returns-in-Some-Step-clause-telling
returns-in-Some-Step-clause-telling g c = c.push_step.ensures.telling

pub returns-in-Some-Step-clause-silent : goal.returns-in-Some-Step-clause-silent
returns-in-Some-Step-clause-silent g c = c.push_step.ensures.silent

pub returns-in-Some-Step-clause-counted : goal.returns-in-Some-Step-clause-counted
returns-in-Some-Step-clause-counted g c = c.push_step.ensures.counted

pub returns-in-Some-Begin-clause-text : goal.returns-in-Some-Begin-clause-text
returns-in-Some-Begin-clause-text g c = c.push_begun.ensures.text

pub returns-in-Some-Begin-clause-kept : goal.returns-in-Some-Begin-clause-kept
returns-in-Some-Begin-clause-kept g c = c.push_begun.ensures.kept

pub returns-in-Some-Begin-clause-world : goal.returns-in-Some-Begin-clause-world
returns-in-Some-Begin-clause-world g c = c.push_begun.ensures.world

pub returns-in-Some-Begin-clause-sound : goal.returns-in-Some-Begin-clause-sound
returns-in-Some-Begin-clause-sound g c = c.push_begun.ensures.sound

pub returns-in-Some-Begin-clause-telling : goal.returns-in-Some-Begin-clause-telling
returns-in-Some-Begin-clause-telling g c = c.push_begun.ensures.telling

pub returns-in-Some-Begin-clause-silent : goal.returns-in-Some-Begin-clause-silent
returns-in-Some-Begin-clause-silent g c = c.push_begun.ensures.silent

pub returns-in-Some-Begin-clause-counted : goal.returns-in-Some-Begin-clause-counted
returns-in-Some-Begin-clause-counted g c = c.push_begun.ensures.counted

pub returns-in-Some-Begin-clause-memory : goal.returns-in-Some-Begin-clause-memory
returns-in-Some-Begin-clause-memory g c = c.push_begun.ensures.memory

pub returns-in-None-clause-text : goal.returns-in-None-clause-text
returns-in-None-clause-text g c = c.push_parsed.ensures.text

pub returns-in-None-clause-kept : goal.returns-in-None-clause-kept
returns-in-None-clause-kept g c = c.push_parsed.ensures.kept

pub returns-in-None-clause-world : goal.returns-in-None-clause-world
returns-in-None-clause-world g c = c.push_parsed.ensures.world

pub returns-in-None-clause-sound : goal.returns-in-None-clause-sound
returns-in-None-clause-sound g c = c.push_parsed.ensures.sound

pub returns-in-None-clause-telling : goal.returns-in-None-clause-telling
returns-in-None-clause-telling g c = c.push_parsed.ensures.telling

pub returns-in-None-clause-silent : goal.returns-in-None-clause-silent
returns-in-None-clause-silent g c = c.push_parsed.ensures.silent

pub returns-in-None-clause-counted : goal.returns-in-None-clause-counted
returns-in-None-clause-counted g c = c.push_parsed.ensures.counted

pub returns-in-None-clause-memory : goal.returns-in-None-clause-memory
returns-in-None-clause-memory g c = c.push_parsed.ensures.memory

pub push_begun-requires-clause-sound : goal.push_begun-requires-clause-sound
push_begun-requires-clause-sound g c = c.requires

pub push_parsed-requires : goal.push_parsed-requires
push_parsed-requires g c = c.requires

pub push_step-requires : goal.push_step-requires
push_step-requires g c = c.requires

pub push_begun-requires-clause-start : goal.push_begun-requires-clause-start
push_begun-requires-clause-start g c =
    let P : Option LineStart → Type 0 = λ start. IfSome start (IsStartOf c.args.line.now) in
    subst P (c.in-Some-Begin.is ∙ ap Some c.in-Some-Begin.field-0-is) c.parse.ensures
