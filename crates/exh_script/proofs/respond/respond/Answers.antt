use Rattle.std.proofs.Common.{◌≡◌, ◌⊎◌, ℕ, List, [], ◌∷◌, Option, None, Result, Ok, Err, IfOk, OnOk, OnErr, inl, inr, sym, ap, ◌∙◌, subst}
use Rattle.exh_load.specs.Opened.{OpenedState}
use Rattle.exh_stream.specs.Output.{Takes, TakesBeginning}
use Rattle.exh_text.specs.FileLine.{file_line_of}
use Rattle.exh_text.specs.TextLines.{lines_of}
use Rattle.exh_text.specs.declared.line_fault.LineFault.{LineFault}
use Rattle.exh_text.specs.declared.settings.Settings.{Settings}
use Rattle.exh_line.specs.RefusalText.{refusal_text}
use Rattle.exh_line.specs.declared.refusal.Refusal.{Refusal}
use Rattle.exh_line.specs.declared.refusal.Refusal.TheVariants.{Line as LineRefusal}
use Rattle.exh_script.specs.Left.{left_after, left_of_lines}
use Rattle.exh_script.specs.OpenedScript.{beginning}
use Rattle.exh_script.specs.Served.{PrintsFront, PrintsFrontFrom}
use Rattle.exh_script.specs.Text.{Beginning, Start, opened, settings_of, start_in, start_of, started, text_after, text_of_lines}
use Rattle.exh_script.proofs.ServedLemmas.{IfCut-map}
use Rattle.exh_script.proofs.respond.respond.Goals as goal

-- a first line, and those behind it
module _ (begin : Beginning) (lines : List (List ℕ)) (line : List ℕ) (rest : List (List ℕ)) (are : lines ≡ line ∷ rest) where
  text_from_start : (start : Result Start Refusal) → start ≡ start_of begin line → text_after start rest ≡ text_of_lines begin lines
  text_from_start start is = ap (λ begun. text_after begun rest) is ∙ ap (text_of_lines begin) (sym are)

  left_from_start : (start : Result Start Refusal) → start ≡ start_of begin line → left_after start rest ≡ left_of_lines begin lines
  left_from_start start is = ap (λ begun. left_after begun rest) is ∙ ap (left_of_lines begin) (sym are)

  -- a right one
  module _ (settings : Settings) (is : Ok settings ≡ file_line_of line) where
    start_is : start_in settings.tells_moves (begin settings.file) ≡ start_of begin line
    unfolding start_of settings_of
    start_is = ap (λ read. started begin (opened read)) is

    text_is : text_after (start_in settings.tells_moves (begin settings.file)) rest ≡ text_of_lines begin lines
    text_is = text_from_start _ start_is

    left_is : left_after (start_in settings.tells_moves (begin settings.file)) rest ≡ left_of_lines begin lines
    left_is = left_from_start _ start_is

    front_is : (T : List ℕ → Type 0) → T [] ⊎ PrintsFrontFrom T (start_in settings.tells_moves (begin settings.file)) rest → T [] ⊎ PrintsFront begin T lines
    front_is T (inl none) = inl none
    front_is T (inr from) = inr record {
      first = line;
      front = from.front;
      rest = from.rest;
      split = are ∙ ap (λ l. line ∷ l) from.split;
      text = subst T (ap (λ begun. text_after begun from.front) start_is) from.text;
    }

  -- a wrong one
  module _ (fault : LineFault) (is : Err fault ≡ file_line_of line) where
    refused_is : Err (LineRefusal fault) ≡ start_of begin line
    unfolding start_of settings_of
    refused_is = ap (λ read. started begin (opened read)) is

    refused_text : refusal_text (LineRefusal fault) ≡ text_of_lines begin lines
    refused_text = text_from_start _ refused_is

    refused_left : None ≡ left_of_lines begin lines
    refused_left = left_from_start _ refused_is

pub returns-in-Ok-clause-text : goal.returns-in-Ok-clause-text
returns-in-Ok-clause-text g c =
    let are = sym c.new-lines.ensures ∙ c.in-Some.ensures.steps in
    subst (λ text. OnOk c.serve_file.result (Takes g.W.Write.contents c.args.output.now c.serve_file.new.output text))
    (text_is (beginning c.args.from) (lines_of c.args.script.now) c.in-Some.first.now c.next.new.self are c.in-Ok.settings c.in-Ok.ensures.line) c.serve_file.ensures.text

pub returns-in-Ok-clause-left : goal.returns-in-Ok-clause-left
returns-in-Ok-clause-left g c =
    let are = sym c.new-lines.ensures ∙ c.in-Some.ensures.steps in
    subst (λ (left : Option OpenedState). IfOk c.serve_file.result (λ l. l ≡ left))
    (left_is (beginning c.args.from) (lines_of c.args.script.now) c.in-Some.first.now c.next.new.self are c.in-Ok.settings c.in-Ok.ensures.line) c.serve_file.ensures.left

pub returns-in-Ok-clause-err : goal.returns-in-Ok-clause-err
returns-in-Ok-clause-err g c =
    let are = sym c.new-lines.ensures ∙ c.in-Some.ensures.steps in
    subst (λ text. OnErr c.serve_file.result (TakesBeginning g.W.Write.contents c.args.output.now c.serve_file.new.output text))
    (text_is (beginning c.args.from) (lines_of c.args.script.now) c.in-Some.first.now c.next.new.self are c.in-Ok.settings c.in-Ok.ensures.line) c.serve_file.ensures.err

pub returns-in-Ok-clause-front : goal.returns-in-Ok-clause-front
returns-in-Ok-clause-front g c =
    let are = sym c.new-lines.ensures ∙ c.in-Some.ensures.steps in
    IfCut-map c.serve_file.result
    (front_is (beginning c.args.from) (lines_of c.args.script.now) c.in-Some.first.now c.next.new.self are c.in-Ok.settings c.in-Ok.ensures.line (Takes g.W.Write.contents c.args.output.now c.serve_file.new.output))
    c.serve_file.ensures.front

pub returns-in-Err-clause-text : goal.returns-in-Err-clause-text
returns-in-Err-clause-text g c =
    let are = sym c.new-lines.ensures ∙ c.in-Some.ensures.steps in
    subst (λ text. OnOk c.refuse-in-Err.result (Takes g.W.Write.contents c.args.output.now c.refuse-in-Err.new.output text))
    (ap refusal_text c.into-in-Err.ensures ∙ refused_text (beginning c.args.from) (lines_of c.args.script.now) c.in-Some.first.now c.next.new.self are c.in-Err.fault c.in-Err.ensures.line) c.refuse-in-Err.ensures.text

pub returns-in-Err-clause-left : goal.returns-in-Err-clause-left
returns-in-Err-clause-left g c =
    let are = sym c.new-lines.ensures ∙ c.in-Some.ensures.steps in
    subst (λ (left : Option OpenedState). IfOk c.refuse-in-Err.result (λ l. l ≡ left))
    (refused_left (beginning c.args.from) (lines_of c.args.script.now) c.in-Some.first.now c.next.new.self are c.in-Err.fault c.in-Err.ensures.line) c.refuse-in-Err.ensures.left

pub returns-in-Err-clause-err : goal.returns-in-Err-clause-err
returns-in-Err-clause-err g c =
    let are = sym c.new-lines.ensures ∙ c.in-Some.ensures.steps in
    subst (λ text. OnErr c.refuse-in-Err.result (TakesBeginning g.W.Write.contents c.args.output.now c.refuse-in-Err.new.output text))
    (ap refusal_text c.into-in-Err.ensures ∙ refused_text (beginning c.args.from) (lines_of c.args.script.now) c.in-Some.first.now c.next.new.self are c.in-Err.fault c.in-Err.ensures.line) c.refuse-in-Err.ensures.err

pub returns-in-Err-clause-front : goal.returns-in-Err-clause-front
returns-in-Err-clause-front g c = IfCut-map c.refuse-in-Err.result inl c.refuse-in-Err.ensures.front

pub returns-in-Ok-clause-same_writer : goal.returns-in-Ok-clause-same_writer
returns-in-Ok-clause-same_writer g c = c.serve_file.ensures.same_writer

pub returns-in-Ok-clause-failed : goal.returns-in-Ok-clause-failed
returns-in-Ok-clause-failed g c = c.serve_file.ensures.failed

pub returns-in-Err-clause-same_writer : goal.returns-in-Err-clause-same_writer
returns-in-Err-clause-same_writer g c = c.refuse-in-Err.ensures.same_writer

pub returns-in-Err-clause-failed : goal.returns-in-Err-clause-failed
returns-in-Err-clause-failed g c = c.refuse-in-Err.ensures.failed

pub returns-in_default-clause-same_writer : goal.returns-in_default-clause-same_writer
returns-in_default-clause-same_writer g c = c.refuse.ensures.same_writer

pub returns-in_default-clause-failed : goal.returns-in_default-clause-failed
returns-in_default-clause-failed g c = c.refuse.ensures.failed

pub returns-in_default-clause-front : goal.returns-in_default-clause-front
returns-in_default-clause-front g c = IfCut-map c.refuse.result inl c.refuse.ensures.front

pub returns-in_default-clause-text : goal.returns-in_default-clause-text
returns-in_default-clause-text g c =
    let none = sym c.new-lines.ensures ∙ c.in_default.ensures.steps.0 in
    subst (λ text. OnOk c.refuse.result (Takes g.W.Write.contents c.args.output.now c.refuse.new.output text)) (ap refusal_text c.into.ensures ∙ sym (ap (text_of_lines (beginning c.args.from)) none)) c.refuse.ensures.text

pub returns-in_default-clause-err : goal.returns-in_default-clause-err
returns-in_default-clause-err g c =
    let none = sym c.new-lines.ensures ∙ c.in_default.ensures.steps.0 in
    subst (λ text. OnErr c.refuse.result (TakesBeginning g.W.Write.contents c.args.output.now c.refuse.new.output text)) (ap refusal_text c.into.ensures ∙ sym (ap (text_of_lines (beginning c.args.from)) none)) c.refuse.ensures.err

pub returns-in_default-clause-left : goal.returns-in_default-clause-left
returns-in_default-clause-left g c =
    let none = sym c.new-lines.ensures ∙ c.in_default.ensures.steps.0 in
    subst (λ (left : Option OpenedState). IfOk c.refuse.result (λ l. l ≡ left)) (sym (ap (left_of_lines (beginning c.args.from)) none)) c.refuse.ensures.left

pub serve_file-requires-clause-open : goal.serve_file-requires-clause-open
serve_file-requires-clause-open g c = c.requires

pub refuse-requires : goal.refuse-requires
refuse-requires g c = c.requires

pub refuse-requires-in-Err : goal.refuse-requires-in-Err
refuse-requires-in-Err g c = c.requires
