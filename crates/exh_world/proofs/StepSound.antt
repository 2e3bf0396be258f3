-- A step of a sound world leaves it sound, and no hop of it strays.
use Rattle.std.proofs.Common.{◌≡◌, ℕ, List, [], ◌∷◌, ◌++◌, length, slice_get, Some, Result, Ok, Err, sym, ap, ◌∙◌, subst}
use Rattle.std.specs.Prelude.{slice_set}
use Rattle.exh_prefix.specs.PrefixListLemmas.{set_here}
use Rattle.exh_notice.specs.declared.notice.Notice.{Notice}
use Rattle.exh_legal.specs.LegalLaws.{RightLinksLeadOn, TargetsLeadOn}
use Rattle.exh_ward.specs.HopTable.{HopOf}
use Rattle.exh_ward.specs.WardState.{WardState, IsSoundWard, LeavesAfter}
use Rattle.exh_ward.specs.MergeStep.{IsMergeStep}
use Rattle.exh_ward.specs.SplitStep.{IsSplitStep}
use Rattle.exh_calls.specs.declared.call.Call.{Call}
use Rattle.exh_ward.specs.declared.hop.Hop.{Hop}
use Rattle.exh_ward.specs.declared.hop.Hop.TheVariants.{Done, Moved, MustSplit, Stray}
use Rattle.exh_ward.specs.Distance.{IsDistance}
use Rattle.exh_walk.specs.DistanceLaws.{StepsAddChanges}
use Rattle.exh_walk.specs.RouteLaws.{MovesComeNearer}
use Rattle.exh_world.specs.InFlight.{Requests, request_named, requests_after}
use Rattle.exh_world.specs.WorldLaws.{AreWardsSound}
use Rattle.exh_world.specs.Sound.{IsOnTheWay, IsSoundWorld}
use Rattle.exh_world.specs.Step.{pseudokey_in, request_begun, HasBegun, HasHopped, HasChanged, HasTaken, HasSent, HasJoined, HasRestarted, HasEffect, Step}
use Rattle.exh_prefix.specs.Leading.{ward_of}
use Rattle.exh_walk.specs.EventProgress.{hop_in, Progress}
use Rattle.exh_walk.specs.EventProgress as progresses
use Rattle.exh_world.specs.World.{WorldState, changes_in}
use Rattle.exh_walk.specs.declared.event.Event.{Event}
use Rattle.exh_walk.specs.declared.outcome.Outcome.{Outcome}
use Rattle.exh_world.specs.declared.request.Request.{Request}
use Rattle.exh_walk.specs.declared.step_fault.StepFault.{StepFault}
use Rattle.exh_world.specs.StepEffectLemmas.{on_effect, on_refusal}
use Rattle.exh_world.specs.RequestLemmas.{all_named}
use Rattle.exh_world.proofs.BegunSound.{begun_sound}
use Rattle.exh_world.proofs.HoppedSound.{same_sound, moved_sound, answered_sound, no_stray}
use Rattle.exh_world.proofs.ChangedSound.{split_sound, merge_sound}
use Rattle.exh_world.proofs.FailureCounted.{counted_sound}
use Rattle.exh_world.proofs.SoundKept.{IsSoundAsTold}
use Rattle.exh_world.proofs.ToldTruly.{step_told}
use Rattle.exh_world.proofs.ToldSound.{copy_sound, notice_leads, join_leads, sent_sound}

-- what is known of the ways in wards
pub record WayLaws {K : Type 0} (pseudokey_of : K → List ℕ → ℕ) : Type 0 where
  pub links : RightLinksLeadOn
  pub targets : TargetsLeadOn
  pub moves : MovesComeNearer
  pub steps : StepsAddChanges pseudokey_of

module _ {K : Type 0} (pseudokey_of : K → List ℕ → ℕ) (old : WorldState K) (sound : IsSoundWorld pseudokey_of old) (new : WorldState K) where
  pub after_begun : (name client copy : ℕ) (call : Call) (ward page : ℕ) → HasBegun pseudokey_of old name client copy call ward page new → IsSoundAsTold pseudokey_of new
  after_begun name client copy call ward page begun =
      let k = pseudokey_in pseudokey_of old call in
      let World : ℕ → ℕ → WorldState K = λ w p. record old { in_flight = old.in_flight ++ (name, request_begun client call k w p begun.distance (length (changes_in old w))) ∷ [] } in
      let found = subst (λ w. slice_get old.wards w ≡ Some begun.before) begun.ward_is begun.found in
      let far = subst (λ p. IsDistance begun.before.pages p k begun.distance) begun.page_is begun.is_distance in
      subst (IsSoundAsTold pseudokey_of) (sym begun.after)
      (subst (λ w. IsSoundAsTold pseudokey_of (World w page)) (sym begun.ward_is)
      (subst (λ p. IsSoundAsTold pseudokey_of (World (ward_of old.ward_bits k) p)) (sym begun.page_is) (begun_sound pseudokey_of old sound name client call begun.table copy begun.there begun.before found begun.distance far)))

  pub way_of : (name ward : ℕ) (hop : Progress) (hopped : HasHopped pseudokey_of old name ward hop new) → IsOnTheWay pseudokey_of old hopped.request
  way_of name ward hop hopped = all_named (IsOnTheWay pseudokey_of old) name old.in_flight hopped.request sound.requests hopped.there

  -- ---- hops

  module _ (laws : WayLaws pseudokey_of) (name : ℕ) (request : Request) (named : request_named name old.in_flight ≡ Some request) (before left : WardState K) (found : slice_get old.wards request.ward ≡ Some before) (left_sound : IsSoundWard pseudokey_of left) where
    way : IsOnTheWay pseudokey_of old request
    way = all_named (IsOnTheWay pseudokey_of old) name old.in_flight request sound.requests named

    by_hop : (hop : Hop) → HopOf old.cap (pseudokey_of old.keyer) before.pages request.page request.call hop → LeavesAfter pseudokey_of before request.page request.client request.call hop left
        → IsSoundAsTold pseudokey_of (record old { wards = slice_set old.wards request.ward left; in_flight = requests_after name hop old.in_flight })
    by_hop (Done reply) hop leaves = answered_sound pseudokey_of old sound request way before found left reply request.client leaves left_sound laws.steps hop name
    by_hop (Moved next) hop leaves = moved_sound pseudokey_of old sound request way before found laws.links laws.targets laws.moves name next left named leaves hop
    by_hop MustSplit hop leaves = same_sound pseudokey_of old sound request way before found old.in_flight left leaves sound.requests
    by_hop Stray hop leaves = same_sound pseudokey_of old sound request way before found old.in_flight left leaves sound.requests

  pub after_hopped : WayLaws pseudokey_of → (name ward : ℕ) (hop : Progress) (hopped : HasHopped pseudokey_of old name ward hop new) → IsSoundWard pseudokey_of hopped.left → IsSoundAsTold pseudokey_of new
  after_hopped laws name ward hop hopped left_sound =
      let found = subst (λ n. slice_get old.wards n ≡ Some hopped.before) hopped.ward_is hopped.found in
      subst (IsSoundAsTold pseudokey_of) (sym hopped.after)
      (subst (λ n. IsSoundAsTold pseudokey_of (record old { wards = slice_set old.wards n hopped.left; in_flight = requests_after name (hop_in hop) old.in_flight })) (sym hopped.ward_is)
      (by_hop laws name hopped.request hopped.there hopped.before hopped.left found left_sound (hop_in hop) hopped.outcome hopped.leaves))

  pub does_not_stray : (name ward : ℕ) → HasHopped pseudokey_of old name ward progresses.Stray new → ⊥
  does_not_stray name ward hopped =
      let found = subst (λ n. slice_get old.wards n ≡ Some hopped.before) hopped.ward_is hopped.found in
      no_stray pseudokey_of old sound hopped.request (way_of name ward progresses.Stray hopped) hopped.before found hopped.outcome

  -- ---- splits and merges

  pub after_split : StepsAddChanges pseudokey_of → (ward page : ℕ) (notice : Notice) (changed : HasChanged IsSplitStep old ward page notice new) → IsSoundWard pseudokey_of changed.left → IsSoundAsTold pseudokey_of new
  after_split steps ward page notice changed left_sound =
      subst (IsSoundAsTold pseudokey_of) (sym changed.after) (split_sound pseudokey_of old sound ward changed.before changed.left changed.found left_sound steps page notice changed.change)

  pub after_merge : StepsAddChanges pseudokey_of → (ward page : ℕ) (notice : Notice) (changed : HasChanged IsMergeStep old ward page notice new) → IsSoundWard pseudokey_of changed.left → IsSoundAsTold pseudokey_of new
  after_merge steps ward page notice changed left_sound =
      subst (IsSoundAsTold pseudokey_of) (sym changed.after) (merge_sound pseudokey_of old sound ward changed.before changed.left changed.found left_sound steps page notice changed.change)

  -- ---- told

  pub after_sent : (copy number : ℕ) → HasSent old copy number new → IsSoundAsTold pseudokey_of new
  after_sent copy number has = subst (IsSoundAsTold pseudokey_of) (sym has.after) (sent_sound pseudokey_of old sound has.table (sound.copies copy has.table has.there))

  pub after_joined : (copy table : ℕ) → HasJoined old copy table new → IsSoundAsTold pseudokey_of new
  after_joined copy table has =
      subst (IsSoundAsTold pseudokey_of) (sym has.after)
      (copy_sound pseudokey_of old sound copy has.own _ has.there (join_leads pseudokey_of old sound has.own has.other (sound.copies copy has.own has.there) (sound.sent table has.other has.sent)))

  pub after_taken : (copy ward index : ℕ) (notice : Notice) → HasTaken old copy ward index notice new → IsSoundAsTold pseudokey_of new
  after_taken copy ward index notice has =
      subst (IsSoundAsTold pseudokey_of) (sym has.after)
      (copy_sound pseudokey_of old sound copy has.table _ has.there (notice_leads pseudokey_of old sound ward notice has.table has.issued (sound.copies copy has.table has.there)))

  pub after_restarted : (copy : ℕ) → HasRestarted old copy new → IsSoundAsTold pseudokey_of new
  after_restarted copy has = subst (IsSoundAsTold pseudokey_of) (sym has.after) (copy_sound pseudokey_of old sound copy has.own old.start has.there sound.start)

-- ---- every step

module _ {K : Type 0} (pseudokey_of : K → List ℕ → ℕ) (old : WorldState K) (sound : IsSoundWorld pseudokey_of old) (laws : WayLaws pseudokey_of) where
  -- the ward that a step changed is one of the world after it
  changed_ward : (new : WorldState K) (at : ℕ) (before left : WardState K) (requests : Requests) → slice_get old.wards at ≡ Some before → new ≡ record old { wards = slice_set old.wards at left; in_flight = requests } → AreWardsSound pseudokey_of new
      → IsSoundWard pseudokey_of left
  changed_ward new at before left requests found is wards = wards at left (ap (λ (w : WorldState K). slice_get w.wards at) is ∙ set_here old.wards at before left found)

  abbrev Keeps : Event → Outcome → WorldState K → Type 0
  Keeps event outcome new = AreWardsSound pseudokey_of new → IsSoundAsTold pseudokey_of new

  pub effect_sound : (event : Event) (outcome : Outcome) (new : WorldState K) → HasEffect pseudokey_of old event outcome new → Keeps event outcome new
  effect_sound = on_effect pseudokey_of old Keeps record {
    begun = λ name client copy call ward page new has wards. after_begun pseudokey_of old sound new name client copy call ward page has;
    hopped = λ name ward hop new has wards. after_hopped pseudokey_of old sound new laws name ward hop has (changed_ward new ward has.before has.left (requests_after name (hop_in hop) old.in_flight) has.found has.after wards);
    split = λ ward page notice new has wards. after_split pseudokey_of old sound new laws.steps ward page notice has (changed_ward new ward has.before has.left old.in_flight has.found has.after wards);
    merge = λ ward page notice new has wards. after_merge pseudokey_of old sound new laws.steps ward page notice has (changed_ward new ward has.before has.left old.in_flight has.found has.after wards);
    taken = λ copy ward index notice new has wards. after_taken pseudokey_of old sound new copy ward index notice has;
    sent = λ copy number new has wards. after_sent pseudokey_of old sound new copy number has;
    joined = λ copy table new has wards. after_joined pseudokey_of old sound new copy table has;
    restarted = λ copy new has wards. after_restarted pseudokey_of old sound new copy has;
  }

  pub step_sound : (event : Event) (result : Result Outcome StepFault) (new : WorldState K) → Step pseudokey_of old event result new → AreWardsSound pseudokey_of new → IsSoundWorld pseudokey_of new
  step_sound event (Ok outcome) new step wards = effect_sound event outcome new step wards (step_told pseudokey_of old sound event (Ok outcome) new step)
  step_sound event (Err fault) new step wards = on_refusal pseudokey_of old (IsSoundWorld pseudokey_of) sound (λ number before failures found. counted_sound pseudokey_of old sound number before found failures) event fault new step
