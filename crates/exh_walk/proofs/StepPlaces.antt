-- A step of a ward keeps the numbers and low bounds of pages.
use Rattle.std.proofs.Common.{ℕ, List, Ok, Err, sym, ap, subst}
use Rattle.exh_legal.specs.LegalLaws.{KeepsPlaces}
use Rattle.exh_legal.specs.LegalPlaceLemmas.{places_from}
use Rattle.exh_ward.specs.WardState.{WardState, LeavesAfter, IsUnchanged}
use Rattle.exh_calls.specs.declared.call.Call.{Call}
use Rattle.exh_ward.specs.declared.hop.Hop.{Hop}
use Rattle.exh_ward.specs.declared.hop.Hop.TheVariants.{Done, Moved, MustSplit, Stray}
use Rattle.exh_ward.specs.AnswerLemmas.{places_answered}
use Rattle.exh_walk.specs.WardRun.{WardEvent, HopAt, SplitAt, MergeAt, WardStep}

module _ {K : Type 0} (pseudokey_of : K → List ℕ → ℕ) (old new : WardState K) where
  places_left : (at client : ℕ) (call : Call) (hop : Hop) → LeavesAfter pseudokey_of old at client call hop new → KeepsPlaces old.pages new.pages
  places_left at client call (Done reply) left = subst (KeepsPlaces old.pages) (sym left.pages) (places_answered old.cap (pseudokey_of old.keyer) old.pages at call)
  places_left at client call (Moved next) left = places_from old.pages new.pages (ap (λ (w : WardState K). w.pages) left)
  places_left at client call MustSplit left = places_from old.pages new.pages (ap (λ (w : WardState K). w.pages) left)
  places_left at client call Stray left = places_from old.pages new.pages (ap (λ (w : WardState K). w.pages) left)

  places_unchanged : IsUnchanged old new → KeepsPlaces old.pages new.pages
  places_unchanged same = places_from old.pages new.pages (ap (λ (w : WardState K). w.pages) same)

  pub step_places : (event : WardEvent) → WardStep pseudokey_of old event new → KeepsPlaces old.pages new.pages
  step_places (HopAt at client call (Ok hop)) step = places_left at client call hop step.1
  step_places (HopAt at client call (Err fault)) step = places_unchanged step
  step_places (SplitAt at (Ok notice)) step = step.places
  step_places (SplitAt at (Err fault)) step = places_unchanged step
  step_places (MergeAt at (Ok notice)) step = step.places
  step_places (MergeAt at (Err fault)) step = places_unchanged step
