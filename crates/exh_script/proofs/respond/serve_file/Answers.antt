use Rattle.std.proofs.Common.{◌≡◌, Some, Result, Ok, IfOk, OnOk, OnErr, sym, ap, ◌∙◌, subst, inl, inr}
use Rattle.std.proofs.lemmas.Result.{IfOk-at_ok, IfOk-from_err}
use Rattle.exh_keyer.specs.Pseudokey.{any_pseudokey}
use Rattle.exh_world.specs.NewWorld.{settings_of}
use Rattle.exh_world.specs.Sound.{IsSoundWorld}
use Rattle.exh_stream.specs.Output.{Takes, TakesBeginning}
use Rattle.exh_stream.specs.OutputLemmas.{OnErr-from, Takes-none, TakesBeginning-none}
use Rattle.exh_line.specs.declared.refusal.Refusal.{Refusal}
use Rattle.exh_script.specs.Left.{file_left, left_after}
use Rattle.exh_script.specs.OpenedScript.{beginning}
use Rattle.exh_script.specs.Text.{ScriptWorld, start_in, text_after}
use Rattle.exh_script.proofs.KeptCounts.{counted_from}
use Rattle.exh_script.proofs.ServedLemmas.{IfCut-from, IfCut-handed, IfCut-map, page_handed}
use Rattle.exh_script.proofs.StartLemmas.{front_in}
use Rattle.exh_script.proofs.respond.serve_file.Goals as goal

pub returns-in_err-world-clause-err : goal.returns-in_err-world-clause-err
returns-in_err-world-clause-err g c = OnErr-from c.from_residual.result (TakesBeginning-none g.W.Write.contents c.args.output.now _)

pub returns-in_err-answer_lines-in-Ok-clause-front : goal.returns-in_err-answer_lines-in-Ok-clause-front
returns-in_err-answer_lines-in-Ok-clause-front g c =
    let begun : Ok c.in-Ok.world ≡ beginning c.args.from c.args.settings.now.file = sym c.in-Ok.is ∙ c.in_ok-world.ensures.begun in
    IfCut-handed c.from_residual-in_err-answer_lines-in-Ok.result c.in_err-answer_lines-in-Ok.field-0.0 c.from_residual-in_err-answer_lines-in-Ok.ensures
    (λ differs. inr (front_in c.args.settings.now.tells_moves (beginning c.args.from c.args.settings.now.file) c.in-Ok.world begun c.args.lines (c.in_err-answer_lines-in-Ok.ensures.front differs)))

pub leave-requires-clause-settings : goal.leave-requires-clause-settings
leave-requires-clause-settings g c =
    let copies = c.args.settings.now.file.copies in
    let sound = IfOk-at_ok (IsSoundWorld any_pseudokey) c.in-Ok.is c.in_ok-world.ensures.sound in
    let settings = IfOk-at_ok (λ (world : ScriptWorld). settings_of world copies ≡ c.args.settings.now.file) c.in-Ok.is c.in_ok-world.ensures.settings in
    ap (λ world. settings_of world copies) c.in_ok-answer_lines-in-Ok.ensures.world ∙ c.lines_keep_settings.ensures c.in-Ok.world sound c.args.lines copies ∙ settings

pub returns-in_err-world-clause-text : goal.returns-in_err-world-clause-text
returns-in_err-world-clause-text g c = IfOk-from_err c.from_residual.result _ c.from_residual.ensures.0

pub returns-in_err-world-clause-left : goal.returns-in_err-world-clause-left
returns-in_err-world-clause-left g c = IfOk-from_err c.from_residual.result _ c.from_residual.ensures.0

pub returns-in_err-answer_lines-in-Ok-clause-text : goal.returns-in_err-answer_lines-in-Ok-clause-text
returns-in_err-answer_lines-in-Ok-clause-text g c = IfOk-from_err c.from_residual-in_err-answer_lines-in-Ok.result _ c.from_residual-in_err-answer_lines-in-Ok.ensures.0

pub returns-in_err-answer_lines-in-Ok-clause-left : goal.returns-in_err-answer_lines-in-Ok-clause-left
returns-in_err-answer_lines-in-Ok-clause-left g c = IfOk-from_err c.from_residual-in_err-answer_lines-in-Ok.result _ c.from_residual-in_err-answer_lines-in-Ok.ensures.0

pub returns-in_err-world-clause-front : goal.returns-in_err-world-clause-front
returns-in_err-world-clause-front g c = IfCut-from c.from_residual.result (inl (Takes-none g.W.Write.contents c.args.output.now))

pub returns-in_err-answer_lines-in-Ok-clause-err : goal.returns-in_err-answer_lines-in-Ok-clause-err
returns-in_err-answer_lines-in-Ok-clause-err g c =
    OnErr-from c.from_residual-in_err-answer_lines-in-Ok.result
    (subst (λ (begun : Result ScriptWorld Refusal). TakesBeginning g.W.Write.contents c.args.output.now c.answer_lines.new.output (text_after (start_in c.args.settings.now.tells_moves begun) c.args.lines))
    (sym c.in-Ok.is ∙ c.in_ok-world.ensures.begun) c.in_err-answer_lines-in-Ok.ensures.err)

pub returns-in_ok-answer_lines-in-Ok-clause-text : goal.returns-in_ok-answer_lines-in-Ok-clause-text
returns-in_ok-answer_lines-in-Ok-clause-text g c =
    subst (λ (begun : Result ScriptWorld Refusal). Takes g.W.Write.contents c.args.output.now c.answer_lines.new.output (text_after (start_in c.args.settings.now.tells_moves begun) c.args.lines))
    (sym c.in-Ok.is ∙ c.in_ok-world.ensures.begun) c.in_ok-answer_lines-in-Ok.ensures.ok

pub returns-in_ok-answer_lines-in-Ok-clause-left : goal.returns-in_ok-answer_lines-in-Ok-clause-left
returns-in_ok-answer_lines-in-Ok-clause-left g c =
    ap Some (c.leave.ensures ∙ ap file_left c.in_ok-answer_lines-in-Ok.ensures.world) ∙ ap (λ (begun : Result ScriptWorld Refusal). left_after (start_in c.args.settings.now.tells_moves begun) c.args.lines)
    (sym c.in-Ok.is ∙ c.in_ok-world.ensures.begun)

pub returns-in-Err-clause-text : goal.returns-in-Err-clause-text
returns-in-Err-clause-text g c =
    subst (λ (begun : Result ScriptWorld Refusal). OnOk c.refuse.result (Takes g.W.Write.contents c.args.output.now c.refuse.new.output (text_after (start_in c.args.settings.now.tells_moves begun) c.args.lines)))
    (sym c.in-Err.is ∙ c.in_ok-world.ensures.begun) c.refuse.ensures.text

pub returns-in-Err-clause-left : goal.returns-in-Err-clause-left
returns-in-Err-clause-left g c =
    subst (λ (begun : Result ScriptWorld Refusal). IfOk c.refuse.result (λ left. left ≡ left_after (start_in c.args.settings.now.tells_moves begun) c.args.lines))
    (sym c.in-Err.is ∙ c.in_ok-world.ensures.begun) c.refuse.ensures.left

pub returns-in-Err-clause-err : goal.returns-in-Err-clause-err
returns-in-Err-clause-err g c =
    subst (λ (begun : Result ScriptWorld Refusal). OnErr c.refuse.result (TakesBeginning g.W.Write.contents c.args.output.now c.refuse.new.output (text_after (start_in c.args.settings.now.tells_moves begun) c.args.lines)))
    (sym c.in-Err.is ∙ c.in_ok-world.ensures.begun) c.refuse.ensures.err

pub returns-in-Err-clause-front : goal.returns-in-Err-clause-front
returns-in-Err-clause-front g c = IfCut-map c.refuse.result inl c.refuse.ensures.front

pub returns-in_err-answer_lines-in-Ok-clause-counted : goal.returns-in_err-answer_lines-in-Ok-clause-counted
returns-in_err-answer_lines-in-Ok-clause-counted g c =
    let begun : Ok c.in-Ok.world ≡ beginning c.args.from c.args.settings.now.file = sym c.in-Ok.is ∙ c.in_ok-world.ensures.begun in
    page_handed c.from_residual-in_err-answer_lines-in-Ok.result c.in_err-answer_lines-in-Ok.field-0.0 c.from_residual-in_err-answer_lines-in-Ok.ensures
    (λ page. counted_from g.P.Pages.failures c.args.from c.args.settings.now.file c.in-Ok.world begun (c.in_err-answer_lines-in-Ok.ensures.counted page))
