-- Lines without some that were refused and not done.
use Rattle.std.proofs.Common.{◌≡◌, ℕ, Bool, List, [], ◌∷◌, ◌++◌, Result, Ok, Err, inl, inr, refl, sym, ap, ◌∙◌, subst}
use Rattle.std.specs.List.{AllByRecursion}
use Rattle.std.specs.Prelude.{◌⊎◌, IsErrOf, OnErr}
use Rattle.exh_keyer.specs.Pseudokey.{any_pseudokey}
use Rattle.exh_text.specs.declared.line_fault.LineFault.{LineFault}
use Rattle.exh_line.specs.Grammar.{line_of}
use Rattle.exh_line.specs.declared.line.Line.{Line}
use Rattle.exh_world.specs.Alike.{AreAlike, AreOthers, StepFunctionGoesAlike, uncounted}
use Rattle.exh_world.specs.AlikeLemmas.{fault_alike, fault_too}
use Rattle.exh_script.specs.RefusedLines.{AreAnswered, HasText, IsUndone, LeavesTheOthers, LineMoment, LinesGoAlike, MayCome, OthersAnswered, Told, lines_told, text_told, texts_told}
use Rattle.exh_script.specs.Replies.{world_left}
use Rattle.exh_script.specs.Text.{ScriptWorld, CountsPageFault, after_asked, after_line, after_parsed, line_response, response_text, text_from}
use Rattle.exh_script.specs.declared.response_fault.ResponseFault.{ResponseFault}
use Rattle.exh_script.specs.declared.response_fault.ResponseFault.TheVariants.{Memory, Page}
use Rattle.exh_script.proofs.AlikeLines.{line_alike, line_left}

module _ (steps : StepFunctionGoesAlike any_pseudokey) (tells_moves : Bool) where
  -- a line may come to the same over a world that is alike
  came_alike : (old : ScriptWorld) (line : List ℕ) (came : Result (List ℕ) ResponseFault) (new : ScriptWorld) → MayCome tells_moves old line came new
      → (twin : ScriptWorld) → AreAlike old twin → (left : ScriptWorld) × MayCome tells_moves twin line came left × AreAlike new left
  came_alike old line (Ok text) new is twin alike =
      (after_line twin line, (is.0 ∙ ap response_text (line_alike steps tells_moves old twin alike line), refl), ap uncounted is.1 ∙ line_left steps tells_moves old twin alike line)
  came_alike old line (Err Page) new is twin alike =
      let too = fault_too old new is.0 is.1 twin alike in (too.0, (is.0, too.1), too.2)
  came_alike old line (Err Memory) new (inl same) twin alike = (twin, inl refl, ap uncounted same ∙ alike)
  came_alike old line (Err Memory) new (inr done) twin alike = (after_line twin line, inr refl, ap uncounted done ∙ line_left steps tells_moves old twin alike line)

  pub others_answered : (start : ScriptWorld) (moments : List LineMoment) (end : ScriptWorld) → AreAnswered tells_moves start moments end
      → (others : List Told) → AreOthers IsUndone (λ other moment. other ≡ moment.told) moments others → (twin : ScriptWorld) → AreAlike start twin → OthersAnswered tells_moves moments end twin others
  others_answered start [] end run others is twin alike = record { left = []; last = twin; told = sym is; answered = refl; same = refl; alike = ap uncounted run ∙ alike }
  others_answered start (moment ∷ moments) end run others (inl (undone, is)) twin alike =
      let rest = others_answered moment.after moments end run.2 others is twin (sym undone.undone ∙ ap uncounted run.0 ∙ alike) in
      record { left = rest.left; last = rest.last; told = rest.told; answered = rest.answered; same = inl (undone, rest.same); alike = rest.alike }
  others_answered start (moment ∷ moments) end run others (inr (first, later, cut, told, is)) twin alike =
      let line = came_alike start moment.told.line moment.told.came moment.after run.1 twin alike in
      let rest = others_answered moment.after moments end run.2 later is line.0 line.2 in
      let other : LineMoment = record { before = twin; told = moment.told; after = line.0 } in
      record {
        left = other ∷ rest.left;
        last = rest.last;
        told = ap (λ turns. moment.told ∷ turns) rest.told ∙ ap (λ t. t ∷ later) (sym told) ∙ sym cut;
        answered = (refl, line.1, rest.answered);
        same = inr (other, rest.left, refl, record { told = refl; before = ap uncounted run.0 ∙ alike; after = line.2 }, rest.same);
        alike = rest.alike;
      }

-- ---- where each line has a text

module _ (tells_moves : Bool) where
  came_text : (old : ScriptWorld) (line : List ℕ) (came : Result (List ℕ) ResponseFault) (new : ScriptWorld) → MayCome tells_moves old line came new → (text : List ℕ) → came ≡ Ok text
      → (text ≡ response_text (line_response tells_moves old line)) × (new ≡ after_line old line)
  came_text old line came new is text has = subst (λ c. MayCome tells_moves old line c new) has is

  pub answered_text : (start : ScriptWorld) (moments : List LineMoment) (end : ScriptWorld) → AreAnswered tells_moves start moments end → AllByRecursion (λ moment. HasText moment.told) moments
      → (texts_told moments ≡ text_from tells_moves start (lines_told moments)) × (end ≡ world_left start (lines_told moments))
  answered_text start [] end run all = (refl, run)
  answered_text start (moment ∷ moments) end run all =
      let text = all.0.0 in
      let first = came_text start moment.told.line moment.told.came moment.after run.1 text all.0.1 in
      let rest = answered_text (after_line start moment.told.line) moments end (subst (λ w. AreAnswered tells_moves w moments end) first.1 run.2) all.1 in (
        ap (λ came. text_told came ++ texts_told moments) all.0.1 ∙ ap (λ t. t ++ texts_told moments) first.0 ∙ ap (λ t. response_text (line_response tells_moves start moment.told.line) ++ t) rest.0,
        rest.1,
      )

-- what a refused line leaves
pub left_others : LinesGoAlike → (tells_moves : Bool) (old : ScriptWorld) (line : List ℕ) (result : Result (Unit {0}) ResponseFault) (new : ScriptWorld)
    → (IsErrOf result Page → CountsPageFault old new) → (IsErrOf result Memory → (new ≡ old) ⊎ (new ≡ after_line old line)) → OnErr result (LeavesTheOthers tells_moves old line new)
left_others alike tells_moves old line (Ok done) new counted memory = tt
left_others alike tells_moves old line (Err Page) new counted memory =
    let fault = counted refl in inl (alike tells_moves old new (sym (fault_alike old new fault.0 fault.1)))
left_others alike tells_moves old line (Err Memory) new counted memory = elim (memory refl) [
  | inl same ↦ inl (alike tells_moves old new (ap uncounted (sym same)))
  | inr done ↦ inr done
]

-- by the line that it asks for
pub left_others_of : LinesGoAlike → (tells_moves : Bool) (old : ScriptWorld) (line : List ℕ) (parsed : Result Line LineFault) (asked : Line) → parsed ≡ line_of line → parsed ≡ Ok asked → (result : Result (Unit {0}) ResponseFault) (new : ScriptWorld)
    → (IsErrOf result Page → CountsPageFault old new) → (IsErrOf result Memory → (new ≡ old) ⊎ (new ≡ after_asked old asked)) → OnErr result (LeavesTheOthers tells_moves old line new)
unfolding after_line
left_others_of alike tells_moves old line parsed asked is found result new counted memory =
    let after : after_asked old asked ≡ after_line old line = ap (after_parsed old) (sym found ∙ is) in
    left_others alike tells_moves old line result new counted (λ refused. subst (λ world. (new ≡ old) ⊎ (new ≡ world)) after (memory refused))

-- a view changes nothing
pub left_others_viewed : LinesGoAlike → (tells_moves : Bool) (old : ScriptWorld) (line : List ℕ) (result : Result (Unit {0}) ResponseFault) (new : ScriptWorld)
    → (IsErrOf result Page → CountsPageFault old new) → (IsErrOf result Memory → new ≡ old) → OnErr result (LeavesTheOthers tells_moves old line new)
left_others_viewed alike tells_moves old line result new counted memory = left_others alike tells_moves old line result new counted (λ refused. inl (memory refused))
