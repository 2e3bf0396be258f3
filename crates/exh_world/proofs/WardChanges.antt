-- What becomes of a world one of whose wards is lent for a call.
use Rattle.std.proofs.Common.{◌≡◌, ℕ, ◌<◌, List, length, slice_get, Some, Result, Ok, Err, inl, inr, refl, ap, ◌∙◌, sym, subst, ◌⊎◌}
use Rattle.std.specs.Prelude.{◌≢◌, slice_set, slice_index_or, IsErr, IsErrAnd}
use Rattle.std.proofs.lemmas.Option.{slice_get_read}
use Rattle.exh_notice.specs.declared.notice.Notice.{Notice}
use Rattle.exh_ward.specs.WardFault.{IsStoreFault, CountsFailures}
use Rattle.exh_ward.specs.WardState.{WardState, IsSoundWard, IsUnchanged}
use Rattle.exh_ward.specs.declared.ward_fault.WardFault.{WardFault}
use Rattle.exh_ward.specs.declared.ward_fault.WardFault.TheVariants.{Memory, Page}
use Rattle.exh_world.specs.WorldKept.{IsKeptWorld}
use Rattle.exh_world.specs.WorldLaws.{StepsKeepWorldsSound}
use Rattle.exh_prefix.specs.PrefixListLemmas.{set_same}
use Rattle.exh_world.specs.Sound.{IsSoundWorld}
use Rattle.exh_world.specs.Step.{HasChanged, CountsFailure, IsChangeRefused, LeavesRefused, Step}
use Rattle.exh_world.specs.World.{WorldState}
use Rattle.exh_walk.specs.declared.event.Event.{Event}
use Rattle.exh_walk.specs.declared.outcome.Outcome.{Outcome}
use Rattle.exh_walk.specs.declared.step_fault.StepFault.{StepFault}
use Rattle.exh_walk.specs.declared.step_fault.StepFault.TheVariants.{Ward}
use Rattle.exh_world.proofs.FailureCounted.{counted_sound}
use Rattle.exh_world.proofs.WardsLeft.{wards_left}

-- ---- refusals

-- what a store refuses, but for a page out of reach
pub memory_of : (fault : WardFault) → IsStoreFault fault → fault ≢ Page → fault ≡ Memory
memory_of Memory is other = refl
memory_of Page is other = absurd (other refl)
memory_of fault is other = absurd is

-- what holds of the refusal holds of the result that it became
pub of_refusal : {T : Type 0} (P : Result T StepFault → Type 0) (result : Result T StepFault) (fault : WardFault) → IsErr result × IsErrAnd result (λ f. f ≡ Ward fault) → P (Err (Ward fault)) → P result
of_refusal P (Ok value) fault is has = absurd is.1
of_refusal P (Err given) fault is has = subst (λ f. P (Err f)) (sym is.1) has

-- ---- the world

module _ {K : Type 0} {pseudokey_of : K → List ℕ → ℕ} {world now : WorldState K} (view_is : world ≡ now) (kept : IsKeptWorld pseudokey_of world) {at : ℕ} {before : WardState K} (fits : at < length world.wards) (lent : before ≡ slice_index_or world.wards at before) (left : WardState K) where
  abbrev pub after : WorldState K
  after = record world { wards = slice_set world.wards at left }

  found : slice_get world.wards at ≡ Some before
  found = slice_get_read world.wards (length world.wards) at before refl fits lent

  pub found_now : slice_get now.wards at ≡ Some before
  found_now = ap (λ (w : WorldState K). slice_get w.wards at) (sym view_is) ∙ found

  -- a change of the ward is one of the world
  pub world_changed : (Changes : WardState K → ℕ → Notice → WardState K → Type 0) (page : ℕ) (notice : Notice) → Changes before page notice left → HasChanged Changes now at page notice after
  world_changed Changes page notice change = subst (λ old. HasChanged Changes old at page notice after) view_is record { before = before; found = found; left = left; change = change; after = refl }

  -- where the ward is left sound, the step keeps what the world keeps
  pub world_kept : StepsKeepWorldsSound pseudokey_of → (event : Event) (result : Result Outcome StepFault) → Step pseudokey_of now event result after → IsSoundWard pseudokey_of left → IsKeptWorld pseudokey_of after
  world_kept law event result step left_sound = record {
    sound = law now event result after (subst (IsSoundWorld pseudokey_of) view_is kept.sound) step (wards_left pseudokey_of world after at before left kept.sound refl found left_sound);
    few_wards = kept.few_wards;
    few_sent = kept.few_sent;
  }

  -- ---- where nothing but the ward's count of failures differs

  module _ (unchanged : IsUnchanged before left) where
    pub same_kept : IsKeptWorld pseudokey_of after
    same_kept = record {
      sound = let P : WardState K → Type 0 = λ w. IsSoundWorld pseudokey_of (record world { wards = slice_set world.wards at w }) in subst P (sym unchanged) (counted_sound pseudokey_of world kept.sound at before found left.failures);
      few_wards = kept.few_wards;
      few_sent = kept.few_sent;
    }

    world_same : left.failures ≡ before.failures → after ≡ now
    world_same same =
        let ward_same : left ≡ before = unchanged ∙ ap (λ n. let w : WardState K = record before { failures = n } in w) same in
        ap (λ ws. let w : WorldState K = record world { wards = ws } in w) (ap (slice_set world.wards at) ward_same ∙ set_same world.wards at before found) ∙ view_is

    counted : before.failures < left.failures → CountsFailure now at after
    counted more = subst (λ old. CountsFailure old at after) view_is record {
      before = before;
      found = found;
      failures = left.failures;
      more = more;
      after = ap (λ w. let then : WorldState K = record world { wards = slice_set world.wards at w } in then) unchanged;
    }

    -- a refusal of the ward is one of the world
    pub leaves_refused : (Reaches : ℕ → Type 0) (Reason : StepFault → Type 0) → Reaches at → (T : Type 0) (fault : WardFault) → CountsFailures {T = T} (Err fault) before.failures left.failures → (fault ≢ Page → Reason (Ward fault) ⊎ (fault ≡ Memory))
        → LeavesRefused Reaches Reason now (Ward fault) after
    leaves_refused Reaches Reason reaches T Page counts reason = inr (refl, at, reaches, counted counts)
    leaves_refused Reaches Reason reaches T fault counts reason = inl (
      world_same counts,
      elim (reason (λ same. cc)) [
        | inl holds ↦ inl holds
        | inr memory ↦ inr (ap Ward memory)
      ],
    )

  pub change_refused : (Refuses : WardState K → ℕ → WardFault → Type 0) (page : ℕ) (fault : WardFault) → Refuses before page fault → fault ≢ Page → IsChangeRefused now Refuses at page (Ward fault)
  change_refused Refuses page fault refused other = (before, found_now, refused, other)
