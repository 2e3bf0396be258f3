-- A run that goes on by one turn more.
use Rattle.std.proofs.Common.{◌≡◌, ℕ, ◌+◌, ◌<◌, List, [], ◌∷◌, ◌++◌, length, map, take, get_or, refl, sym, ap, ◌∙◌, subst}
use Rattle.std.specs.Prelude.{Result}
use Rattle.std.specs.List.{AllByRecursion}
use Rattle.std.proofs.lemmas.List.{map-append, take_more}
use Rattle.std.proofs.lemmas.List.Elements.{All-from_recursion}
use Rattle.exh_prefix.specs.PrefixListLemmas.{AllByRecursion-append}
use Rattle.exh_world.specs.Alike.{HasOthers, RefusedTurnsLeaveTheOthers}
use Rattle.exh_world.specs.Headline.{IsHeadline}
use Rattle.exh_world.specs.WorldLaws.{AreWardsSound, RunsCarryTheHeadline}
use Rattle.exh_world.specs.RequestMoves.{AnswersAreBounded, HasBoundedAnswers}
use Rattle.exh_world.specs.Parts.{HasCountedMoves, HasCurrentCopies, RunsCountMoves, RunsHaveCurrentCopies}
use Rattle.exh_world.specs.WorldRun.{Moment, IsRun}
use Rattle.exh_world.specs.Sound.{IsSoundWorld}
use Rattle.exh_world.specs.Step.{Step}
use Rattle.exh_world.specs.World.{WorldState}
use Rattle.exh_walk.specs.declared.event.Event.{Event}
use Rattle.exh_walk.specs.declared.outcome.Outcome.{Outcome}
use Rattle.exh_walk.specs.declared.step_fault.StepFault.{StepFault}
use Rattle.exh_walk.specs.declared.turn.Turn.{Turn}

-- the turns so far, of the events so far, led from the start to where the world is now
pub record HasRun {K : Type 0} (pseudokey_of : K → List ℕ → ℕ) (start : WorldState K) (events : List Event) (turns : List Turn) (now : WorldState K) : Type 0 where
  pub moments : List (Moment K)
  pub turns_are : map (λ (moment : Moment K). moment.turn) moments ≡ turns
  pub events_are : map (λ (turn : Turn). turn.event) turns ≡ events
  pub run : IsRun pseudokey_of start moments now
  pub wards : AllByRecursion (λ (moment : Moment K). AreWardsSound pseudokey_of moment.after) moments

module _ {K : Type 0} (pseudokey_of : K → List ℕ → ℕ) where
  pub none_run : (start : WorldState K) → HasRun pseudokey_of start [] [] start
  none_run start = record { moments = []; turns_are = refl; events_are = refl; run = refl; wards = tt }

  run_on : (start : WorldState K) (moments : List (Moment K)) (now : WorldState K) → IsRun pseudokey_of start moments now
      → (event : Event) (result : Result Outcome StepFault) (next : WorldState K) → Step pseudokey_of now event result next
      → IsRun pseudokey_of start (moments ++ record { before = now; turn = record { event = event; result = result }; after = next } ∷ []) next
  run_on start [] now run event result next step = (run, let P : WorldState K → Type 0 = λ w. Step pseudokey_of w event result next in subst P run step, refl)
  run_on start (moment ∷ moments) now run event result next step = (run.0, run.1, run_on moment.after moments now run.2 event result next step)

  goes_on : (start : WorldState K) (events : List Event) (turns : List Turn) (now : WorldState K) → HasRun pseudokey_of start events turns now
      → (event : Event) (result : Result Outcome StepFault) (next : WorldState K) → Step pseudokey_of now event result next → IsSoundWorld pseudokey_of next
      → HasRun pseudokey_of start (events ++ event ∷ []) (turns ++ record { event = event; result = result } ∷ []) next
  goes_on start events turns now has event result next step sound =
      let moment : Moment K = record { before = now; turn = record { event = event; result = result }; after = next } in
      record {
        moments = has.moments ++ moment ∷ [];
        turns_are = map-append (λ (m : Moment K). m.turn) has.moments (moment ∷ []) ∙ ap (λ ts. ts ++ moment.turn ∷ []) has.turns_are;
        events_are = map-append (λ (turn : Turn). turn.event) turns (moment.turn ∷ []) ∙ ap (λ es. es ++ event ∷ []) has.events_are;
        run = run_on start has.moments now has.run event result next step;
        wards = AllByRecursion-append _ has.moments (moment ∷ []) has.wards (λ number ward is. (sound.wards number ward is).sound, tt);
      }

  -- the turn of one event more of a list
  pub one_more : (start : WorldState K) (events : List Event) (at : ℕ) (turns after : List Turn) (now : WorldState K) → HasRun pseudokey_of start (take at events) turns now
      → (event : Event) → at < length events → event ≡ get_or events at event → (result : Result Outcome StepFault) (next : WorldState K) → Step pseudokey_of now event result next → IsSoundWorld pseudokey_of next
      → after ≡ turns ++ record { event = event; result = result } ∷ [] → HasRun pseudokey_of start (take (at + 1) events) after next
  one_more start events at turns after now has event within is result next step sound pushed =
      let longer : take (at + 1) events ≡ take at events ++ event ∷ [] = take_more events at event within ∙ ap (λ e. take at events ++ e ∷ []) (sym is) in
      subst (λ ts. HasRun pseudokey_of start (take (at + 1) events) ts next) (sym pushed)
      (subst (λ es. HasRun pseudokey_of start es (turns ++ record { event = event; result = result } ∷ []) next) (sym longer) (goes_on start (take at events) turns now has event result next step sound))

  -- and has bounded answers
  pub bounded_of : AnswersAreBounded pseudokey_of → (start : WorldState K) (events : List Event) (turns : List Turn) (now : WorldState K) → IsSoundWorld pseudokey_of start
      → HasRun pseudokey_of start events turns now → HasBoundedAnswers pseudokey_of start turns now
  bounded_of bounded start events turns now sound has = record {
    moments = has.moments;
    turns_are = has.turns_are;
    run = has.run;
    bounded = bounded start has.moments now sound (All-from_recursion (λ (moment : Moment K). AreWardsSound pseudokey_of moment.after) has.moments has.wards) has.run;
  }

  -- a run from a sound world carries the headline
  pub headline_of : RunsCarryTheHeadline pseudokey_of → (start : WorldState K) (events : List Event) (turns : List Turn) (now : WorldState K) → IsSoundWorld pseudokey_of start
      → HasRun pseudokey_of start events turns now → IsHeadline pseudokey_of start turns now
  headline_of carry start events turns now sound has =
      subst (λ ts. IsHeadline pseudokey_of start ts now) has.turns_are
      (carry start has.moments now sound (All-from_recursion (λ (moment : Moment K). AreWardsSound pseudokey_of moment.after) has.moments has.wards) has.run).0

  -- and its moves are counted
  pub moves_of : RunsCountMoves pseudokey_of → (start : WorldState K) (events : List Event) (turns : List Turn) (now : WorldState K) → IsSoundWorld pseudokey_of start
      → HasRun pseudokey_of start events turns now → HasCountedMoves pseudokey_of start turns now
  moves_of law start events turns now sound has = subst (λ ts. HasCountedMoves pseudokey_of start ts now) has.turns_are (law start has.moments now sound has.run).0

  pub current_of : RunsHaveCurrentCopies pseudokey_of → (start : WorldState K) (events : List Event) (turns : List Turn) (now : WorldState K) → IsSoundWorld pseudokey_of start
      → HasRun pseudokey_of start events turns now → HasCurrentCopies pseudokey_of start turns now
  current_of law start events turns now sound has = subst (λ ts. HasCurrentCopies pseudokey_of start ts now) has.turns_are (law start has.moments now sound has.run).0

  pub others_of : RefusedTurnsLeaveTheOthers pseudokey_of → (start : WorldState K) (events : List Event) (turns : List Turn) (now : WorldState K) → HasRun pseudokey_of start events turns now → HasOthers pseudokey_of start turns now
  others_of law start events turns now has = subst (λ ts. HasOthers pseudokey_of start ts now) has.turns_are (law start has.moments now has.run).0
