-- What a step of a sound world does to its wards: nothing, or one step of one of them. So it leaves the world sound.
use Rattle.std.proofs.Common.{◌≡◌, ◌⊎◌, ℕ, ◌+◌, List, [], ◌∷◌, ◌++◌, length, slice_get, Some, Result, Ok, Err, inl, inr, refl, sym, ap, ◌∙◌, subst, arith}
use Rattle.std.specs.Prelude.{slice_set}
use Rattle.std.proofs.lemmas.List.{length_push}
use Rattle.exh_prefix.specs.PrefixListLemmas.{set_is}
use Rattle.exh_notice.specs.declared.notice.Notice.{Notice}
use Rattle.exh_table.specs.Table.{table_with}
use Rattle.exh_calls.specs.declared.call.Call.{Call}
use Rattle.exh_ward.specs.HopTable.{HopOf}
use Rattle.exh_ward.specs.WardState.{WardState, IsSoundWard, LeavesAfter}
use Rattle.exh_ward.specs.declared.hop.Hop.{Hop}
use Rattle.exh_ward.specs.declared.hop.Hop.TheVariants.{Done, Moved, MustSplit, Stray}
use Rattle.exh_ward.specs.declared.ward_fault.WardFault.TheVariants.{Page}
use Rattle.exh_walk.specs.RouteLaws.{RunsKeepWardsSound}
use Rattle.exh_walk.specs.WardRun.{WardEvent, HopAt, SplitAt, MergeAt, WardStep, changes_by}
use Rattle.exh_world.specs.StepEffectLemmas.{on_effect, on_refusal}
use Rattle.exh_world.specs.WorldLaws.{AreWardsSound, StepsKeepWorldsSound}
use Rattle.exh_walk.specs.EventProgress.{hop_in, Progress}
use Rattle.exh_world.specs.Sound.{IsSoundWorld}
use Rattle.exh_world.specs.Step.{HasHopped, HasEffect, Step}
use Rattle.exh_world.specs.World.{WorldState}
use Rattle.exh_walk.specs.declared.event.Event.{Event}
use Rattle.exh_walk.specs.declared.outcome.Outcome.{Outcome}
use Rattle.exh_walk.specs.declared.step_fault.StepFault.{StepFault}

-- the ward's notices and table are as they were, or it has one notice more, which its table took
abbrev pub Tells : {K : Type 0} → WardState K → WardState K → Type 0
Tells before left = ((left.notices ≡ before.notices) × (left.table ≡ before.table)) ⊎ ((notice : Notice) × (left.notices ≡ before.notices ++ notice ∷ []) × (left.table ≡ table_with before.table notice))

-- one step of the ward of a number, which has the step's changes more
pub record IsWardTurn {K : Type 0} (pseudokey_of : K → List ℕ → ℕ) (old new : WorldState K) : Type 0 where
  pub at : ℕ
  pub before : WardState K
  pub left : WardState K
  pub found : slice_get old.wards at ≡ Some before
  pub event : WardEvent
  pub step : WardStep pseudokey_of before event left
  pub grown : length left.notices ≡ length before.notices + length (changes_by event)
  pub tells : Tells before left
  pub wards : new.wards ≡ slice_set old.wards at left
  pub noticed : new.noticed ≡ old.noticed

pub record LeavesWards {K : Type 0} (old new : WorldState K) : Type 0 where
  pub wards : new.wards ≡ old.wards
  pub noticed : new.noticed ≡ old.noticed

abbrev pub Turns : {K : Type 0} → (K → List ℕ → ℕ) → WorldState K → WorldState K → Type 0
Turns pseudokey_of old new = LeavesWards old new ⊎ IsWardTurn pseudokey_of old new

module _ {K : Type 0} (pseudokey_of : K → List ℕ → ℕ) where
  notices_kept : (before left : WardState K) (at client : ℕ) (call : Call) (hop : Hop) → LeavesAfter pseudokey_of before at client call hop left → left.notices ≡ before.notices
  notices_kept before left at client call (Done reply) leaves = ap (λ (w : WardState K). w.notices) leaves.others
  notices_kept before left at client call (Moved next) leaves = ap (λ (w : WardState K). w.notices) leaves
  notices_kept before left at client call MustSplit leaves = ap (λ (w : WardState K). w.notices) leaves
  notices_kept before left at client call Stray leaves = ap (λ (w : WardState K). w.notices) leaves

  table_kept : (before left : WardState K) (at client : ℕ) (call : Call) (hop : Hop) → LeavesAfter pseudokey_of before at client call hop left → left.table ≡ before.table
  table_kept before left at client call (Done reply) leaves = ap (λ (w : WardState K). w.table) leaves.others
  table_kept before left at client call (Moved next) leaves = ap (λ (w : WardState K). w.table) leaves
  table_kept before left at client call MustSplit leaves = ap (λ (w : WardState K). w.table) leaves
  table_kept before left at client call Stray leaves = ap (λ (w : WardState K). w.table) leaves

  -- a ward that counts more failures
  pub counted_turn : (old : WorldState K) (number : ℕ) (before : WardState K) (failures : ℕ) → slice_get old.wards number ≡ Some before → Turns pseudokey_of old (record old { wards = slice_set old.wards number (record before { failures = failures }) })
  counted_turn old number before failures found = inr record {
    at = number;
    before = before;
    left = record before { failures = failures };
    found = found;
    event = SplitAt 0 (Err Page);
    step = refl;
    grown = omega arith;
    tells = inl (refl, refl);
    wards = refl;
    noticed = refl;
  }

  module _ (old : WorldState K) (sound : IsSoundWorld pseudokey_of old) where
    hop_turn : (name ward : ℕ) (hop : Progress) (new : WorldState K) → HasHopped pseudokey_of old name ward hop new → Turns pseudokey_of old new
    hop_turn name ward hop new has =
        let own = sound.wards ward has.before has.found in
        let request = has.request in
        let own_hop : HopOf has.before.cap (pseudokey_of has.before.keyer) has.before.pages request.page request.call (hop_in hop) =
        subst (λ (keyer : K). HopOf has.before.cap (pseudokey_of keyer) has.before.pages request.page request.call (hop_in hop)) (sym own.keyer)
        (subst (λ cap. HopOf cap (pseudokey_of old.keyer) has.before.pages request.page request.call (hop_in hop)) (sym own.cap) has.outcome) in
        let notices = notices_kept has.before has.left request.page request.client request.call (hop_in hop) has.leaves in
        let same = ap length notices in
        inr record {
          at = ward;
          before = has.before;
          left = has.left;
          found = has.found;
          event = HopAt request.page request.client request.call (Ok (hop_in hop));
          step = (own_hop, has.leaves);
          grown = omega (arith, same);
          tells = inl (notices, table_kept has.before has.left request.page request.client request.call (hop_in hop) has.leaves);
          wards = ap (λ (w : WorldState K). w.wards) has.after;
          noticed = ap (λ (w : WorldState K). w.noticed) has.after;
        }

    -- the ward has the notice more
    one_more : (before left : WardState K) (notice : Notice) → left ≡ record before { pages = left.pages; notices = before.notices ++ notice ∷ []; table = table_with before.table notice } → length left.notices ≡ length before.notices + 1
    one_more before left notice others = ap (λ (w : WardState K). length w.notices) others ∙ omega (arith, length_push before.notices notice)

    effect_turn : (event : Event) (outcome : Outcome) (new : WorldState K) → HasEffect pseudokey_of old event outcome new → Turns pseudokey_of old new
    effect_turn = on_effect pseudokey_of old (λ event outcome new. Turns pseudokey_of old new) record {
      begun = λ name client copy call ward page new has. inl record { wards = ap (λ (w : WorldState K). w.wards) has.after; noticed = ap (λ (w : WorldState K). w.noticed) has.after };
      hopped = hop_turn;
      split = λ ward page notice new has. inr record {
        at = ward;
        before = has.before;
        left = has.left;
        found = has.found;
        event = SplitAt page (Ok notice);
        step = has.change;
        grown = one_more has.before has.left notice has.change.others;
        tells = inr (notice, ap (λ (w : WardState K). w.notices) has.change.others, ap (λ (w : WardState K). w.table) has.change.others);
        wards = ap (λ (w : WorldState K). w.wards) has.after;
        noticed = ap (λ (w : WorldState K). w.noticed) has.after;
      };
      merge = λ ward page notice new has. inr record {
        at = ward;
        before = has.before;
        left = has.left;
        found = has.found;
        event = MergeAt page (Ok notice);
        step = has.change;
        grown = one_more has.before has.left notice has.change.others;
        tells = inr (notice, ap (λ (w : WardState K). w.notices) has.change.others, ap (λ (w : WardState K). w.table) has.change.others);
        wards = ap (λ (w : WorldState K). w.wards) has.after;
        noticed = ap (λ (w : WorldState K). w.noticed) has.after;
      };
      taken = λ copy ward index notice new has. inl record { wards = ap (λ (w : WorldState K). w.wards) has.after; noticed = ap (λ (w : WorldState K). w.noticed) has.after };
      sent = λ copy number new has. inl record { wards = ap (λ (w : WorldState K). w.wards) has.after; noticed = ap (λ (w : WorldState K). w.noticed) has.after };
      joined = λ copy table new has. inl record { wards = ap (λ (w : WorldState K). w.wards) has.after; noticed = ap (λ (w : WorldState K). w.noticed) has.after };
      restarted = λ copy new has. inl record { wards = ap (λ (w : WorldState K). w.wards) has.after; noticed = ap (λ (w : WorldState K). w.noticed) has.after };
    }

    pub step_turn : (event : Event) (result : Result Outcome StepFault) (new : WorldState K) → Step pseudokey_of old event result new → Turns pseudokey_of old new
    step_turn event (Ok outcome) new step = effect_turn event outcome new step
    step_turn event (Err fault) new step =
        on_refusal pseudokey_of old (Turns pseudokey_of old) (inl record { wards = refl; noticed = refl })
        (counted_turn old) event fault new step

    -- ---- so the world stays sound

    module _ (law : RunsKeepWardsSound pseudokey_of) where
      wards_sound : (new : WorldState K) → Turns pseudokey_of old new → AreWardsSound pseudokey_of new
      wards_sound new (inl leaves) number ward is = (sound.wards number ward (ap (λ (ws : List (WardState K)). slice_get ws number) (sym leaves.wards) ∙ is)).sound
      wards_sound new (inr turn) number ward is = elim (set_is old.wards turn.at number turn.before turn.left ward turn.found (ap (λ (ws : List (WardState K)). slice_get ws number) (sym turn.wards) ∙ is)) [
        | inl here ↦
            let kept : IsSoundWard pseudokey_of turn.left = law turn.before (record { before = turn.before; event = turn.event; after = turn.left } ∷ []) turn.left (sound.wards turn.at turn.before turn.found).sound (refl, turn.step, refl) in
            subst (IsSoundWard pseudokey_of) (sym here.1) kept
        | inr else ↦ (sound.wards number ward else.1).sound
      ]

      pub stays_sound : StepsKeepWorldsSound pseudokey_of → (event : Event) (result : Result Outcome StepFault) (new : WorldState K) → Step pseudokey_of old event result new → IsSoundWorld pseudokey_of new
      stays_sound keep event result new step = keep old event result new sound step (wards_sound new (step_turn event result new step))
