-- A page fault is counted by the ward that is reached into, and no other step changes a ward's count of failures.
use Rattle.std.proofs.Common.{◌≡◌, ℕ, List, map, slice_get, Some, Result, Ok, Err, inl, inr, refl, ap, ◌∙◌, subst}
use Rattle.std.specs.Prelude.{slice_set}
use Rattle.std.proofs.lemmas.List.{map-set}
use Rattle.exh_ward.specs.WardState.{WardState, LeavesAfter}
use Rattle.exh_calls.specs.declared.call.Call.{Call}
use Rattle.exh_ward.specs.declared.hop.Hop.{Hop}
use Rattle.exh_ward.specs.declared.hop.Hop.TheVariants.{Done, Moved, MustSplit, Stray}
use Rattle.exh_ward.specs.declared.ward_fault.WardFault.TheVariants.{Page}
use Rattle.exh_world.specs.StepEffectLemmas.{on_effect}
use Rattle.exh_world.specs.WorldLaws.{IsCounted, failures_in}
use Rattle.exh_prefix.specs.PrefixListLemmas.{set_same}
use Rattle.exh_walk.specs.EventProgress.{hop_in}
use Rattle.exh_world.specs.Step.{HasEffect, IsRefused, Step}
use Rattle.exh_world.specs.World.{WorldState}
use Rattle.exh_walk.specs.declared.event.Event.{Event}
use Rattle.exh_walk.specs.declared.event.Event.TheVariants.{Split, Merge}
use Rattle.exh_walk.specs.declared.outcome.Outcome.{Outcome}
use Rattle.exh_walk.specs.declared.step_fault.StepFault.{StepFault}
use Rattle.exh_walk.specs.declared.step_fault.StepFault.TheVariants.{Ward}
use Rattle.exh_world.specs.WorldListLemmas.{map_there}

module _ {K : Type 0} (pseudokey_of : K → List ℕ → ℕ) (old : WorldState K) where
  -- a ward with the count that it had
  same_counts : (at : ℕ) (before left : WardState K) → slice_get old.wards at ≡ Some before → left.failures ≡ before.failures → failures_in (record old { wards = slice_set old.wards at left }) ≡ failures_in old
  same_counts at before left found same =
      let count : WardState K → ℕ = λ ward. ward.failures in
      map-set count old.wards at left ∙ ap (slice_set (map count old.wards) at) same ∙ set_same (map count old.wards) at before.failures (map_there count old.wards at before found)

  left_count : (before left : WardState K) (at client : ℕ) (call : Call) (hop : Hop) → LeavesAfter pseudokey_of before at client call hop left → left.failures ≡ before.failures
  left_count before left at client call (Done reply) leaves = ap (λ (w : WardState K). w.failures) leaves.others
  left_count before left at client call (Moved next) leaves = ap (λ (w : WardState K). w.failures) leaves
  left_count before left at client call MustSplit leaves = ap (λ (w : WardState K). w.failures) leaves
  left_count before left at client call Stray leaves = ap (λ (w : WardState K). w.failures) leaves

  counts_kept : (event : Event) (outcome : Outcome) (new : WorldState K) → HasEffect pseudokey_of old event outcome new → failures_in new ≡ failures_in old
  counts_kept = on_effect pseudokey_of old (λ event outcome new. failures_in new ≡ failures_in old) record {
    begun = λ name client copy call ward page new has. ap failures_in has.after;
    hopped = λ name ward hop new has. ap failures_in has.after ∙ same_counts ward has.before has.left has.found (left_count has.before has.left has.request.page has.request.client has.request.call (hop_in hop) has.leaves);
    split = λ ward page notice new has. ap failures_in has.after ∙ same_counts ward has.before has.left has.found (ap (λ (w : WardState K). w.failures) has.change.others);
    merge = λ ward page notice new has. ap failures_in has.after ∙ same_counts ward has.before has.left has.found (ap (λ (w : WardState K). w.failures) has.change.others);
    taken = λ copy ward index notice new has. ap failures_in has.after;
    sent = λ copy number new has. ap failures_in has.after;
    joined = λ copy table new has. ap failures_in has.after;
    restarted = λ copy new has. ap failures_in has.after;
  }

  -- it is no refusal for a reason
  no_reason : (event : Event) → IsRefused old event (Ward Page) → ⊥
  no_reason (Split ward page) is = is.3 refl
  no_reason (Merge ward page) is = is.3 refl
  no_reason event is = absurd is

  pub counted_step : (event : Event) (result : Result Outcome StepFault) (new : WorldState K) → Step pseudokey_of old event result new → IsCounted pseudokey_of old event result new
  counted_step event (Ok outcome) new step = record { real = λ page. cc; only = λ other. counts_kept event outcome new step }
  counted_step event (Err fault) new (inl (same, inl reason)) = record {
    real = λ page.
        let fault_is : fault ≡ Ward Page = cc in
        absurd (no_reason event (subst (IsRefused old event) fault_is reason));
    only = λ other. ap failures_in same;
  }
  counted_step event (Err fault) new (inl (same, inr memory)) = record { real = λ page. cc; only = λ other. ap failures_in same }
  counted_step event (Err fault) new (inr (page, number, reaches, counts)) = record {
    real = λ is. (number, reaches, counts);
    only = λ other. absurd (other (ap Err page));
  }
