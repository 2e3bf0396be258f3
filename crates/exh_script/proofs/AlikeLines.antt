-- Lines over worlds that are equal but for the wards' counts of page faults.
use Rattle.std.proofs.Common.{◌≡◌, ℕ, Bool, List, [], ◌∷◌, ◌++◌, slice_get, Result, Ok, Err, refl, sym, ap, ◌∙◌}
use Rattle.exh_keyer.specs.declared.any_keyer.AnyKeyer.{AnyKeyer}
use Rattle.exh_keyer.specs.Pseudokey.{any_pseudokey}
use Rattle.exh_text.specs.declared.line_fault.LineFault.{LineFault}
use Rattle.exh_ward.specs.WardState.{WardState}
use Rattle.exh_ward.specs.declared.ward_fault.WardFault.TheVariants.{NoPage}
use Rattle.exh_walk.specs.declared.step_fault.StepFault.TheVariants.{NoWard, Ward}
use Rattle.exh_world.specs.Alike.{AreAlike, StepFunctionGoesAlike, uncounted}
use Rattle.exh_world.specs.WorldListLemmas.{altered_has}
use Rattle.exh_line.specs.LineAnswer.{step_answer}
use Rattle.exh_line.specs.Grammar.{line_of}
use Rattle.exh_line.specs.Shown.{page_text}
use Rattle.exh_line.specs.declared.line.Line.{Line}
use Rattle.exh_line.specs.declared.line.Line.TheVariants.{Step, View}
use Rattle.exh_line.specs.declared.view.View.{View as ViewType}
use Rattle.exh_line.specs.declared.view.View.TheVariants as views
use Rattle.exh_script.specs.RefusedLines.{GoOnAlike}
use Rattle.exh_script.specs.Text.{ScriptWorld, Said, after_line, after_parsed, line_response, parsed_response, response_text, text_from, view_response}
use Rattle.exh_script.specs.View.{found_or, view_result}

-- ---- views

view_uncounted : (world : ScriptWorld) (view : ViewType) → view_result (uncounted world) view ≡ view_result world view
view_uncounted world (views.Copy copy) = refl
view_uncounted world (views.Page ward page) =
    altered_has (λ (ward : WardState AnyKeyer). record ward { failures = 0 }) (λ (state : WardState AnyKeyer). found_or (Ward NoPage) (page_text ward page) (slice_get state.pages page)) (λ state. refl) (Err NoWard) world.wards ward
view_uncounted world views.InFlight = refl

view_alike : (one other : ScriptWorld) → AreAlike one other → (view : ViewType) → view_result one view ≡ view_result other view
view_alike one other alike view = sym (view_uncounted one view) ∙ ap (λ world. view_result world view) alike ∙ view_uncounted other view

-- ---- lines

module _ (steps : StepFunctionGoesAlike any_pseudokey) (tells_moves : Bool) where
  module _ (one other : ScriptWorld) (alike : AreAlike one other) where
    response_parsed : (parsed : Result Line LineFault) → parsed_response tells_moves one parsed ≡ parsed_response tells_moves other parsed
    response_parsed (Ok (Step event)) = ap (λ result. Said (step_answer tells_moves event result)) (steps one other alike event).0
    response_parsed (Ok (View view)) = ap view_response (view_alike one other alike view)
    response_parsed (Err fault) = refl

    after_alike : (parsed : Result Line LineFault) → AreAlike (after_parsed one parsed) (after_parsed other parsed)
    after_alike (Ok (Step event)) = (steps one other alike event).1
    after_alike (Ok (View view)) = alike
    after_alike (Err fault) = alike

    pub line_alike : (line : List ℕ) → line_response tells_moves one line ≡ line_response tells_moves other line
    unfolding line_response
    line_alike line = response_parsed (line_of line)

    pub line_left : (line : List ℕ) → AreAlike (after_line one line) (after_line other line)
    unfolding after_line
    line_left line = after_alike (line_of line)

  pub lines_alike : (one other : ScriptWorld) → AreAlike one other → GoOnAlike tells_moves one other
  lines_alike one other alike [] = (refl, alike)
  lines_alike one other alike (line ∷ lines) =
      let rest = lines_alike (after_line one line) (after_line other line) (line_left one other alike line) lines in (
        ap (λ response. response_text response ++ text_from tells_moves (after_line one line) lines) (line_alike one other alike line) ∙ ap (λ text. response_text (line_response tells_moves other line) ++ text) rest.0,
        rest.1,
      )
