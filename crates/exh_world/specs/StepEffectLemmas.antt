-- What holds of each effect holds of every step that isn't refused; what holds of a world whose wards count more failures, too, of every other.
use Rattle.std.proofs.Common.{◌≡◌, ℕ, List, slice_get, Some, Err, inl, inr, sym, subst}
use Rattle.std.specs.Prelude.{slice_set}
use Rattle.exh_notice.specs.declared.notice.Notice.{Notice}
use Rattle.exh_ward.specs.MergeStep.{IsMergeStep}
use Rattle.exh_ward.specs.SplitStep.{IsSplitStep}
use Rattle.exh_calls.specs.declared.call.Call.{Call}
use Rattle.exh_ward.specs.WardState.{WardState}
use Rattle.exh_ward.specs.declared.hop.Hop.TheVariants as hops
use Rattle.exh_world.specs.Step.{HasBegun, HasHopped, HasChanged, HasTaken, HasSent, HasJoined, HasRestarted, HasEffect, Step}
use Rattle.exh_world.specs.World.{WorldState}
use Rattle.exh_walk.specs.declared.event.Event.{Event}
use Rattle.exh_walk.specs.declared.event.Event.TheVariants.{Begin, Hop as HopOn, Split, Merge, Deliver, Send, Combine, Restart}
use Rattle.exh_walk.specs.declared.outcome.Outcome.{Outcome}
use Rattle.exh_walk.specs.declared.outcome.Outcome.TheVariants.{Begun, Hopped, Replied, Changed, Taken, Sent, Joined, Restarted}
use Rattle.exh_walk.specs.EventProgress.{Progress, Done, Moved, MustSplit, Stray, hop_outcome}
use Rattle.exh_walk.specs.declared.step_fault.StepFault.{StepFault}

-- what a hop has done is a step to its outcome, and the other way round
module _ {K : Type 0} (pseudokey_of : K → List ℕ → ℕ) (old : WorldState K) (name ward : ℕ) where
  pub hopped_step : (hop : Progress) (new : WorldState K) → HasHopped pseudokey_of old name ward hop new → HasEffect pseudokey_of old (HopOn name) (hop_outcome ward hop) new
  hopped_step (Done reply moves bound) new has = has
  hopped_step (Moved next) new has = has
  hopped_step MustSplit new has = has
  hopped_step Stray new has = has

  pub step_hopped : (hop : Progress) (new : WorldState K) → HasEffect pseudokey_of old (HopOn name) (hop_outcome ward hop) new → HasHopped pseudokey_of old name ward hop new
  step_hopped (Done reply moves bound) new has = has
  step_hopped (Moved next) new has = has
  step_hopped MustSplit new has = has
  step_hopped Stray new has = has

module _ {K : Type 0} (pseudokey_of : K → List ℕ → ℕ) (old : WorldState K) (P : Event → Outcome → WorldState K → Type 0) where
  pub record ForEach : Type 0 where
    pub begun : (name client copy : ℕ) (call : Call) (ward page : ℕ) (new : WorldState K) → HasBegun pseudokey_of old name client copy call ward page new → P (Begin name client copy call) (Begun ward page) new
    pub hopped : (name ward : ℕ) (hop : Progress) (new : WorldState K) → HasHopped pseudokey_of old name ward hop new → P (HopOn name) (hop_outcome ward hop) new
    pub split : (ward page : ℕ) (notice : Notice) (new : WorldState K) → HasChanged IsSplitStep old ward page notice new → P (Split ward page) (Changed notice) new
    pub merge : (ward page : ℕ) (notice : Notice) (new : WorldState K) → HasChanged IsMergeStep old ward page notice new → P (Merge ward page) (Changed notice) new
    pub taken : (copy ward index : ℕ) (notice : Notice) (new : WorldState K) → HasTaken old copy ward index notice new → P (Deliver copy ward index) (Taken notice) new
    pub sent : (copy number : ℕ) (new : WorldState K) → HasSent old copy number new → P (Send copy) (Sent number) new
    pub joined : (copy table : ℕ) (new : WorldState K) → HasJoined old copy table new → P (Combine copy table) Joined new
    pub restarted : (copy : ℕ) (new : WorldState K) → HasRestarted old copy new → P (Restart copy) Restarted new

  pub on_effect : ForEach → (event : Event) (outcome : Outcome) (new : WorldState K) → HasEffect pseudokey_of old event outcome new → P event outcome new
  on_effect each (Begin name client copy call) (Begun ward page) new has = each.begun name client copy call ward page new has
  on_effect each (HopOn name) (Replied ward reply moves bound) new has = each.hopped name ward (Done reply moves bound) new has
  on_effect each (HopOn name) (Hopped ward (hops.Moved next)) new has = each.hopped name ward (Moved next) new has
  on_effect each (HopOn name) (Hopped ward hops.MustSplit) new has = each.hopped name ward MustSplit new has
  on_effect each (HopOn name) (Hopped ward hops.Stray) new has = each.hopped name ward Stray new has
  on_effect each (Split ward page) (Changed notice) new has = each.split ward page notice new has
  on_effect each (Merge ward page) (Changed notice) new has = each.merge ward page notice new has
  on_effect each (Deliver copy ward index) (Taken notice) new has = each.taken copy ward index notice new has
  on_effect each (Send copy) (Sent number) new has = each.sent copy number new has
  on_effect each (Combine copy table) Joined new has = each.joined copy table new has
  on_effect each (Restart copy) Restarted new has = each.restarted copy new has
  on_effect each event outcome new has = absurd has

-- a refused event leaves the world as it was, but for one ward's count of failures
pub on_refusal : {K : Type 0} (pseudokey_of : K → List ℕ → ℕ) (old : WorldState K) (P : WorldState K → Type 0) → P old
    → ((number : ℕ) (before : WardState K) (failures : ℕ) → slice_get old.wards number ≡ Some before → P (record old { wards = slice_set old.wards number (record before { failures = failures }) }))
    → (event : Event) (fault : StepFault) (new : WorldState K) → Step pseudokey_of old event (Err fault) new → P new
on_refusal pseudokey_of old P same counted event fault new step = elim step [
  | inl is ↦ subst P (sym is.0) same
  | inr is ↦ subst P (sym is.3.after) (counted is.1 is.3.before is.3.failures is.3.found)
]
