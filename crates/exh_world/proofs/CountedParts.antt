-- What is counted over the parts of a run.
use Rattle.std.proofs.Common.{ℕ, List, [], ◌∷◌, ◌++◌, append_assoc, refl, sym, ap, ◌∙◌, subst}
use Rattle.exh_walk.specs.RouteLaws.{RunsKeepWardsSound}
use Rattle.exh_world.specs.Counted.{AnswersAreCounted, RequestsGoOn}
use Rattle.exh_world.specs.Current.{CurrentCopiesBeginHome, CurrentCopiesLookOnce}
use Rattle.exh_world.specs.WorldLaws.{StepsKeepWorldsSound}
use Rattle.exh_world.specs.Parts.{HasCountedMoves, HasCurrentCopies, RunsCountMoves, RunsHaveCurrentCopies}
use Rattle.exh_world.specs.WorldRun.{Moment, IsRun}
use Rattle.exh_world.specs.Step.{Step}
use Rattle.exh_world.specs.Taken.{TakersBeginHome, TakersLookOnce, turns_of}
use Rattle.exh_world.specs.World.{WorldState}
use Rattle.exh_walk.specs.declared.turn.Turn.{Turn}
use Rattle.exh_world.proofs.GoingOn.{run_sound}

-- a run is one before each of its turns, that turn's step, and one after it
at_turn : {K : Type 0} (pseudokey_of : K → List ℕ → ℕ) (start : WorldState K) (front : List (Moment K)) (moment : Moment K) (rest : List (Moment K)) (end : WorldState K) → IsRun pseudokey_of start (front ++ moment ∷ rest) end
    → IsRun pseudokey_of start front moment.before × Step pseudokey_of moment.before moment.turn.event moment.turn.result moment.after × IsRun pseudokey_of moment.after rest end
at_turn pseudokey_of start [] moment rest end run = (run.0, subst (λ w. Step pseudokey_of w moment.turn.event moment.turn.result moment.after) (sym run.0) run.1, run.2)
at_turn pseudokey_of start (first ∷ front) moment rest end run = let later = at_turn pseudokey_of first.after front moment rest end run.2 in ((run.0, run.1, later.0), later.1, later.2)

module _ {K : Type 0} (pseudokey_of : K → List ℕ → ℕ) (keep : StepsKeepWorldsSound pseudokey_of) (runs : RunsKeepWardsSound pseudokey_of) where
  pub count_moves : RequestsGoOn pseudokey_of → AnswersAreCounted pseudokey_of → RunsCountMoves pseudokey_of
  count_moves go answer start moments end sound run =
      let counted : HasCountedMoves pseudokey_of start (turns_of moments) end = record {
        moments = moments;
        turns_are = refl;
        run = run;
        goes_on = λ now part later is. go now part later (run_sound pseudokey_of keep runs start is.front now sound is.before) is.within;
        answers = λ now part hop is rest back name ward reply moves bound turn request named unmet distance away.
            let cut = is.cut ∙ ap (λ ms. is.front ++ (part ++ ms)) back ∙ sym (append_assoc is.front part (hop ∷ rest)) in
            let here = at_turn pseudokey_of start (is.front ++ part) hop rest end (subst (λ ms. IsRun pseudokey_of start ms end) cut run) in
            let P : Turn → Type 0 = λ t. Step pseudokey_of hop.before t.event t.result hop.after in
            answer now part hop.before hop.after (run_sound pseudokey_of keep runs start is.front now sound is.before) is.within name request named unmet distance away ward reply moves bound (subst P turn here.1);
      } in
      (counted, refl)

  pub current_copies : CurrentCopiesLookOnce pseudokey_of → TakersLookOnce pseudokey_of → CurrentCopiesBeginHome pseudokey_of → TakersBeginHome pseudokey_of → RunsHaveCurrentCopies pseudokey_of
  current_copies look once home own start moments end sound run =
      let copies : HasCurrentCopies pseudokey_of start (turns_of moments) end = record {
        moments = moments;
        turns_are = refl;
        run = run;
        current = λ front begin hop name client copy call ward page progress is table there current.
            let first = at_turn pseudokey_of start front begin (is.part ++ hop ∷ is.back) end (subst (λ ms. IsRun pseudokey_of start ms end) is.cut run) in
            let last = at_turn pseudokey_of begin.after is.part hop is.back end first.2 in
            let P : Turn → Type 0 = λ t. Step pseudokey_of begin.before t.event t.result begin.after in
            let Q : Turn → Type 0 = λ t. Step pseudokey_of hop.before t.event t.result hop.after in
            look begin.before begin.after name client copy call ward page (run_sound pseudokey_of keep runs start front begin.before sound first.0) (subst P is.begins first.1) table there current is.part hop.before last.0 is.open_still is.changes is.number progress hop.after
            (subst Q is.hops last.1);
        current_begin = λ front begin name client copy call ward page is table there current.
            let first = at_turn pseudokey_of start front begin is.back end (subst (λ ms. IsRun pseudokey_of start ms end) is.cut run) in
            let P : Turn → Type 0 = λ t. Step pseudokey_of begin.before t.event t.result begin.after in
            home begin.before begin.after name client copy call ward page (run_sound pseudokey_of keep runs start front begin.before sound first.0) (subst P is.begins first.1) table there current;
        takers_begin = λ front begin name client copy call ward page is taken.
            let first = at_turn pseudokey_of start front begin is.back end (subst (λ ms. IsRun pseudokey_of start ms end) is.cut run) in
            let P : Turn → Type 0 = λ t. Step pseudokey_of begin.before t.event t.result begin.after in
            own start front begin.before sound first.0 name client copy call ward page begin.after (subst P is.begins first.1) taken;
        takers = λ front begin hop name client copy call ward page progress is taken.
            let first = at_turn pseudokey_of start front begin (is.part ++ hop ∷ is.back) end (subst (λ ms. IsRun pseudokey_of start ms end) is.cut run) in
            let last = at_turn pseudokey_of begin.after is.part hop is.back end first.2 in
            let P : Turn → Type 0 = λ t. Step pseudokey_of begin.before t.event t.result begin.after in
            let Q : Turn → Type 0 = λ t. Step pseudokey_of hop.before t.event t.result hop.after in
            once start front begin.before sound first.0 name client copy call ward page begin.after (subst P is.begins first.1) taken is.part hop.before last.0 is.open_still is.changes is.number progress hop.after (subst Q is.hops last.1);
      } in
      (copies, refl)
