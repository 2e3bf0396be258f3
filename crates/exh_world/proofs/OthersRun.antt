-- A run without some of the turns that were refused: what stands behind such a turn goes on from the world before it, which is alike.
use Rattle.std.proofs.Common.{ℕ, List, [], ◌∷◌, Result, Ok, Err, inl, inr, refl, sym, ap, ◌∙◌, subst}
use Rattle.std.specs.Prelude.{IsErr}
use Rattle.exh_walk.specs.declared.event.Event.{Event}
use Rattle.exh_walk.specs.declared.outcome.Outcome.{Outcome}
use Rattle.exh_walk.specs.declared.step_fault.StepFault.{StepFault}
use Rattle.exh_walk.specs.declared.turn.Turn.{Turn}
use Rattle.exh_world.specs.Alike.{AreAlike, AreOtherTurns, HasOthers, OthersRun, RefusedTurnsLeaveTheOthers, StepsGoAlike, uncounted}
use Rattle.exh_world.specs.WorldRun.{Moment, IsRun}
use Rattle.exh_world.specs.Step.{Step}
use Rattle.exh_world.specs.Taken.{turns_of}
use Rattle.exh_world.specs.World.{WorldState}
use Rattle.exh_world.proofs.AlikeSteps.{refused_alike}

module _ {K : Type 0} (pseudokey_of : K → List ℕ → ℕ) (steps : StepsGoAlike pseudokey_of) where
  left_alike : (old : WorldState K) (event : Event) (result : Result Outcome StepFault) (new : WorldState K) → Step pseudokey_of old event result new → IsErr result → AreAlike new old
  left_alike old event (Ok outcome) new step refused = cc
  left_alike old event (Err fault) new step refused = refused_alike pseudokey_of old event fault new step

  others_run : (start : WorldState K) (moments : List (Moment K)) (end : WorldState K) → IsRun pseudokey_of start moments end
      → (others : List Turn) → AreOtherTurns (turns_of moments) others → (twin : WorldState K) → AreAlike start twin → OthersRun pseudokey_of moments end twin others
  others_run start [] end run others is twin alike = record { left = []; last = twin; turns_are = sym is; run = refl; same = refl; alike = ap uncounted run ∙ alike }
  others_run start (moment ∷ moments) end run others (inl (refused, is)) twin alike =
      let rest = others_run moment.after moments end run.2 others is twin (left_alike moment.before moment.turn.event moment.turn.result moment.after (subst (λ w. Step pseudokey_of w moment.turn.event moment.turn.result moment.after) (sym run.0) run.1) refused ∙ ap uncounted run.0 ∙ alike) in
      record { left = rest.left; last = rest.last; turns_are = rest.turns_are; run = rest.run; same = inl (refused, rest.same); alike = rest.alike }
  others_run start (moment ∷ moments) end run others (inr (first, later, cut, turn, is)) twin alike =
      let step = steps start moment.turn.event moment.turn.result moment.after run.1 twin alike in
      let rest = others_run moment.after moments end run.2 later is step.0 step.2 in
      let other : Moment K = record { before = twin; turn = moment.turn; after = step.0 } in
      record {
        left = other ∷ rest.left;
        last = rest.last;
        turns_are = ap (λ turns. moment.turn ∷ turns) rest.turns_are ∙ ap (λ t. t ∷ later) (sym turn) ∙ sym cut;
        run = (refl, step.1, rest.run);
        same = inr (other, rest.left, refl, record { turn = refl; before = ap uncounted run.0 ∙ alike; after = step.2 }, rest.same);
        alike = rest.alike;
      }

  pub leave_others : RefusedTurnsLeaveTheOthers pseudokey_of
  leave_others start moments end run =
      let has : HasOthers pseudokey_of start (turns_of moments) end = record { moments = moments; turns_are = refl; run = run; others = λ others is twin alike. others_run start moments end run others is twin alike } in
      (has, refl)
