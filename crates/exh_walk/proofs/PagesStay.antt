-- Pages keep their numbers and low bounds over a run.
use Rattle.std.proofs.Common.{ℕ, List, [], ◌∷◌, ap}
use Rattle.std.specs.List.{AllByRecursion}
use Rattle.std.proofs.lemmas.List.Elements.{All-from_recursion}
use Rattle.exh_legal.specs.LegalLaws.{KeepsPlaces}
use Rattle.exh_legal.specs.LegalPlaceLemmas.{places_from, places_on, below_kept}
use Rattle.exh_ward.specs.WardState.{WardState}
use Rattle.exh_walk.specs.RouteLaws.{ArePlacesKept}
use Rattle.exh_walk.specs.WardRun.{WardMoment, IsWardRun}
use Rattle.exh_walk.proofs.StepPlaces.{step_places}

module _ {K : Type 0} (pseudokey_of : K → List ℕ → ℕ) where
  pub run_places : (start : WardState K) (moments : List (WardMoment K)) (end : WardState K) → IsWardRun pseudokey_of start moments end → KeepsPlaces start.pages end.pages
  run_places start [] end run = places_from start.pages end.pages (ap (λ (w : WardState K). w.pages) run)
  run_places start (moment ∷ moments) end run =
      places_on start.pages moment.after.pages end.pages (step_places pseudokey_of start moment.after moment.event run.1) (run_places moment.after moments end run.2)

  later_places : (start : WardState K) (moments : List (WardMoment K)) (end : WardState K) → IsWardRun pseudokey_of start moments end → AllByRecursion (λ (moment : WardMoment K). KeepsPlaces moment.after.pages end.pages) moments
  later_places start [] end run = tt
  later_places start (moment ∷ moments) end run = (run_places moment.after moments end run.2, later_places moment.after moments end run.2)

  pub places_kept : (start : WardState K) (moments : List (WardMoment K)) (end : WardState K) → IsWardRun pseudokey_of start moments end → ArePlacesKept start moments end
  places_kept start moments end run = record {
    places = run_places start moments end run;
    later = All-from_recursion _ moments (later_places start moments end run);
    below = below_kept start.pages end.pages (run_places start moments end run);
  }
