-- What a step of the world leaves of each ward: a sound one, whose journal has the entries of the ward's own calls more.
use Rattle.std.proofs.Common.{◌≡◌, ℕ, ◌^◌, ◌<◌, List, [], ◌∷◌, ◌++◌, map, take, slice_get, Bool, true, false, cond, Some, Result, Ok, Err, inl, inr, refl, sym, ap, ◌∙◌, subst}
use Rattle.std.specs.Prelude.{◌==◌, slice_set, filter}
use Rattle.std.specs.Option.{option_map_or}
use Rattle.std.proofs.lemmas.Bool.{eqb-true, eq-eqb}
use Rattle.std.proofs.lemmas.List.{append-nil}
use Rattle.std.proofs.lemmas.Option.{slice_get_within}
use Rattle.exh_prefix.specs.Bits.{number_of, word_bits}
use Rattle.exh_prefix.specs.BitLemmas.{length-bits_of, number_of-bits_of}
use Rattle.exh_prefix.specs.PrefixListLemmas.{set_is}
use Rattle.exh_keyer.specs.declared.any_keyer.AnyKeyer.{AnyKeyer}
use Rattle.exh_keyer.specs.Pseudokey.{any_pseudokey}
use Rattle.exh_calls.specs.Call.{key_of}
use Rattle.exh_ward.specs.HopTable.{HopOf}
use Rattle.exh_ward.specs.MergeStep.{IsMergeStep}
use Rattle.exh_ward.specs.SplitStep.{IsSplitStep}
use Rattle.exh_ward.specs.WardState.{WardState, IsSoundWard}
use Rattle.exh_walk.specs.EventProgress.{hop_in, Progress, Done, Moved, MustSplit, Stray, hop_outcome}
use Rattle.exh_calls.specs.declared.journal_entry.JournalEntry.{JournalEntry}
use Rattle.exh_ward.specs.declared.ward_fault.WardFault.TheVariants.{Page}
use Rattle.exh_walk.specs.RouteLaws.{RunsKeepWardsSound}
use Rattle.exh_walk.specs.WardRun.{WardEvent, HopAt, SplitAt, MergeAt, WardStep}
use Rattle.exh_world.specs.InFlight.{request_named}
use Rattle.exh_world.specs.WorldRun.{answered_by, answered_at, journal_entry_of}
use Rattle.exh_world.specs.Sound.{IsOnTheWay, IsSoundWorld}
use Rattle.exh_world.specs.Step.{HasHopped, HasChanged, HasEffect, Step}
use Rattle.exh_prefix.specs.Leading.{ward_of, ward_prefix}
use Rattle.exh_walk.specs.declared.event.Event.{Event}
use Rattle.exh_walk.specs.declared.event.Event.TheVariants.{Hop as HopOn}
use Rattle.exh_walk.specs.declared.outcome.Outcome.{Outcome}
use Rattle.exh_walk.specs.declared.outcome.Outcome.TheVariants.{Replied}
use Rattle.exh_world.specs.declared.request.Request.{Request}
use Rattle.exh_walk.specs.declared.step_fault.StepFault.{StepFault}
use Rattle.exh_world.specs.StepEffectLemmas.{on_effect, on_refusal}
use Rattle.exh_world.specs.RequestLemmas.{all_named}
use Rattle.exh_script.specs.Text.{ScriptWorld}
use Rattle.exh_script.proofs.LineMoments.{none_answered}

-- whether an entry's call is of a ward
abbrev pub is_in_ward : ℕ → AnyKeyer → ℕ → JournalEntry → Bool
is_in_ward ward_bits keyer number entry = ward_of ward_bits (any_pseudokey keyer (key_of entry.call)) == number

-- what is left of a ward, after calls with these entries
pub record IsWardLeft (old : ScriptWorld) (entries : List JournalEntry) (number : ℕ) (ward : WardState AnyKeyer) : Type 0 where
  pub before : WardState AnyKeyer
  pub there : slice_get old.wards number ≡ Some before
  pub kept : IsSoundWard any_pseudokey before → IsSoundWard any_pseudokey ward
  pub journal : ward.journal ≡ before.journal ++ filter (is_in_ward old.ward_bits old.keyer number) entries

pub record AreWardsLeft (old : ScriptWorld) (entries : List JournalEntry) (new : ScriptWorld) : Type 0 where
  pub bits : new.ward_bits ≡ old.ward_bits
  pub keyer : new.keyer ≡ old.keyer
  pub wards : (number : ℕ) (ward : WardState AnyKeyer) → slice_get new.wards number ≡ Some ward → IsWardLeft old entries number ward

-- ---- a ward that isn't changed

module _ (old : ScriptWorld) where
  untouched : (entries : List JournalEntry) (number : ℕ) (ward : WardState AnyKeyer) → slice_get old.wards number ≡ Some ward → filter (is_in_ward old.ward_bits old.keyer number) entries ≡ [] → IsWardLeft old entries number ward
  untouched entries number ward there none = record {
    before = ward;
    there = there;
    kept = λ sound. sound;
    journal = sym (append-nil ward.journal) ∙ ap (λ own. ward.journal ++ own) (sym none);
  }

  itself : AreWardsLeft old [] old
  itself = record { bits = refl; keyer = refl; wards = λ number ward is. untouched [] number ward is refl }

  -- all wards are as before
  same_wards : (new : ScriptWorld) → new.wards ≡ old.wards → new.ward_bits ≡ old.ward_bits → new.keyer ≡ old.keyer → AreWardsLeft old [] new
  same_wards new same bits keyer = record {
    bits = bits;
    keyer = keyer;
    wards = λ number ward is. untouched [] number ward (ap (λ wards. slice_get wards number) (sym same) ∙ is) refl;
  }

  -- ---- one ward is changed

  module _ (at : ℕ) (before left : WardState AnyKeyer) (found : slice_get old.wards at ≡ Some before) (new : ScriptWorld)
      (wards_are : new.wards ≡ slice_set old.wards at left) (bits : new.ward_bits ≡ old.ward_bits) (keyer : new.keyer ≡ old.keyer) where
    one_ward : (entries : List JournalEntry) → IsWardLeft old entries at left → ((number : ℕ) → (number ≡ at → ⊥) → filter (is_in_ward old.ward_bits old.keyer number) entries ≡ []) → AreWardsLeft old entries new
    one_ward entries here none = record {
      bits = bits;
      keyer = keyer;
      wards = λ number ward is. elim (set_is old.wards at number before left ward found (ap (λ wards. slice_get wards number) (sym wards_are) ∙ is)) [
        | inl own ↦ subst (λ n. IsWardLeft old entries n ward) (sym own.0) (subst (IsWardLeft old entries at) (sym own.1) here)
        | inr else ↦ untouched entries number ward else.1 (none number else.0)
      ];
    }

  -- ---- by a step of the ward

  module _ (law : RunsKeepWardsSound any_pseudokey) where
    by_step : (before left : WardState AnyKeyer) (event : WardEvent) → WardStep any_pseudokey before event left → IsSoundWard any_pseudokey before → IsSoundWard any_pseudokey left
    by_step before left event step sound = law before (record { before = before; event = event; after = left } ∷ []) left sound (refl, step, refl)

    changed_wards : (Changes : WardState AnyKeyer → ℕ → _ → WardState AnyKeyer → Type 0) (event : ℕ → _ → WardEvent)
        → ((before : WardState AnyKeyer) (page : ℕ) (notice : _) (left : WardState AnyKeyer) → Changes before page notice left → WardStep any_pseudokey before (event page notice) left × (left.journal ≡ before.journal))
        → (ward page : ℕ) (notice : _) (new : ScriptWorld) → HasChanged Changes old ward page notice new → AreWardsLeft old [] new
    changed_wards Changes event steps ward page notice new has =
        let step = steps has.before page notice has.left has.change in
        one_ward ward has.before has.left has.found new (ap (λ (w : ScriptWorld). w.wards) has.after) (ap (λ (w : ScriptWorld). w.ward_bits) has.after) (ap (λ (w : ScriptWorld). w.keyer) has.after) [] (record {
          before = has.before;
          there = has.found;
          kept = by_step has.before has.left (event page notice) step.0;
          journal = step.1 ∙ sym (append-nil has.before.journal);
        }) (λ number else. refl)

    -- a ward counts a page out of reach
    failure_counted : (at : ℕ) (before : WardState AnyKeyer) (failures : ℕ) → slice_get old.wards at ≡ Some before → AreWardsLeft old [] (record old { wards = slice_set old.wards at (record before { failures = failures }) })
    failure_counted at before failures found =
        let left : WardState AnyKeyer = record before { failures = failures } in
        one_ward at before left found (record old { wards = slice_set old.wards at left }) refl refl refl [] (record {
          before = before;
          there = found;
          kept = by_step before left (SplitAt 0 (Err Page)) refl;
          journal = sym (append-nil before.journal);
        }) (λ number else. refl)

    -- ---- hops

    module _ (sound : IsSoundWorld any_pseudokey old) (name ward : ℕ) where
      -- the ward of the request's key is the request's own
      own_ward : (request : Request) → request_named name old.in_flight ≡ Some request → (before : WardState AnyKeyer) → slice_get old.wards request.ward ≡ Some before
          → ward_of old.ward_bits (any_pseudokey old.keyer (key_of request.call)) ≡ request.ward
      own_ward request named before found =
          let way = all_named (IsOnTheWay any_pseudokey old) name old.in_flight request sound.requests named in
          let small : request.ward < 2 ^ old.ward_bits = subst (λ n. request.ward < n) sound.count (slice_get_within old.wards request.ward before found) in
          let begins : take old.ward_bits (word_bits request.pseudokey) ≡ ward_prefix old.ward_bits request.ward =
          ap (λ n. take n (word_bits request.pseudokey)) (sym (length-bits_of old.ward_bits request.ward)) ∙ way.begins in
          ap (ward_of old.ward_bits) (sym way.pseudokey_is) ∙ ap number_of begins ∙ number_of-bits_of old.ward_bits request.ward small

      only_own : (at number : ℕ) (entry : JournalEntry) → ward_of old.ward_bits (any_pseudokey old.keyer (key_of entry.call)) ≡ at → (number ≡ at → ⊥) → (is : Bool) → is_in_ward old.ward_bits old.keyer number entry ≡ is
          → cond is (entry ∷ []) (let none : List JournalEntry = [] in none) ≡ []
      only_own at number entry own else true is = absurd (else (sym (eqb-true _ _ is) ∙ own))
      only_own at number entry own else false is = refl

      module _ (hop : Progress) (new : ScriptWorld) (has : HasHopped any_pseudokey old name ward hop new) where
        found : slice_get old.wards has.request.ward ≡ Some has.before
        found = subst (λ n. slice_get old.wards n ≡ Some has.before) has.ward_is has.found

        own : ward_of old.ward_bits (any_pseudokey old.keyer (key_of has.request.call)) ≡ has.request.ward
        own = own_ward has.request has.there has.before found

        outcome : HopOf has.before.cap (any_pseudokey has.before.keyer) has.before.pages has.request.page has.request.call (hop_in hop)
        outcome =
            let is = sound.wards has.request.ward has.before found in
            subst (λ cap. HopOf cap (any_pseudokey has.before.keyer) has.before.pages has.request.page has.request.call (hop_in hop)) (sym is.cap)
            (subst (λ keyer. HopOf old.cap (any_pseudokey keyer) has.before.pages has.request.page has.request.call (hop_in hop)) (sym is.keyer) has.outcome)

        wards_are : new.wards ≡ slice_set old.wards has.request.ward has.left
        wards_are = ap (λ (w : ScriptWorld). w.wards) has.after ∙ ap (λ n. slice_set old.wards n has.left) has.ward_is

        kept : IsSoundWard any_pseudokey has.before → IsSoundWard any_pseudokey has.left
        kept = by_step has.before has.left (HopAt has.request.page has.request.client has.request.call (Ok (hop_in hop))) (outcome, has.leaves)

        abbrev Leaves : List JournalEntry → Type 0
        Leaves entries = AreWardsLeft old entries new

        -- no call is answered
        not_answered : has.left ≡ has.before → Leaves []
        not_answered same =
            one_ward has.request.ward has.before has.left found new wards_are (ap (λ (w : ScriptWorld). w.ward_bits) has.after) (ap (λ (w : ScriptWorld). w.keyer) has.after) [] (record {
              before = has.before;
              there = found;
              kept = kept;
              journal = ap (λ (w : WardState AnyKeyer). w.journal) same ∙ sym (append-nil has.before.journal);
            }) (λ number else. refl)

        -- a call is answered in its ward
        answered : (entry : JournalEntry) → entry.call ≡ has.request.call → has.left.journal ≡ has.before.journal ++ entry ∷ [] → Leaves (entry ∷ [])
        answered entry call_is journal =
            let of_entry : ward_of old.ward_bits (any_pseudokey old.keyer (key_of entry.call)) ≡ has.request.ward = ap (λ call. ward_of old.ward_bits (any_pseudokey old.keyer (key_of call))) call_is ∙ own in
            one_ward has.request.ward has.before has.left found new wards_are (ap (λ (w : ScriptWorld). w.ward_bits) has.after) (ap (λ (w : ScriptWorld). w.keyer) has.after) (entry ∷ []) (record {
              before = has.before;
              there = found;
              kept = kept;
              journal = journal ∙ ap (λ is. has.before.journal ++ cond is (entry ∷ []) []) (sym (eq-eqb _ _ of_entry));
            }) (λ number else. only_own has.request.ward number entry of_entry else _ refl)

      by_hop : (hop : Progress) (new : ScriptWorld) → HasHopped any_pseudokey old name ward hop new → AreWardsLeft old (map journal_entry_of (answered_at old (HopOn name) (Ok (hop_outcome ward hop)))) new
      by_hop (Done reply moves bound) new has =
          let told : map journal_entry_of (answered_at old (HopOn name) (Ok (Replied ward reply moves bound))) ≡ record { client = has.request.client; call = has.request.call; reply = reply } ∷ [] =
          ap (λ named. map journal_entry_of (option_map_or (λ request. answered_by old reply moves bound request ∷ []) named [])) has.there in
          subst (λ entries. AreWardsLeft old entries new) (sym told) (answered (Done reply moves bound) new has (record { client = has.request.client; call = has.request.call; reply = reply }) refl has.leaves.journal)
      by_hop (Moved next) new has = not_answered (Moved next) new has has.leaves
      by_hop MustSplit new has = not_answered MustSplit new has has.leaves
      by_hop Stray new has = not_answered Stray new has has.leaves

    -- ---- every step

    module _ (sound : IsSoundWorld any_pseudokey old) where
      abbrev LeavesWards : Event → Outcome → ScriptWorld → Type 0
      LeavesWards event outcome new = AreWardsLeft old (map journal_entry_of (answered_at old event (Ok outcome))) new

      by_effect : (event : Event) (outcome : Outcome) (new : ScriptWorld) → HasEffect any_pseudokey old event outcome new → LeavesWards event outcome new
      by_effect = on_effect any_pseudokey old LeavesWards record {
        begun = λ name client copy call ward page new has. same_wards new (ap (λ (w : ScriptWorld). w.wards) has.after) (ap (λ (w : ScriptWorld). w.ward_bits) has.after) (ap (λ (w : ScriptWorld). w.keyer) has.after);
        hopped = λ name ward hop new has. by_hop sound name ward hop new has;
        split = λ ward page notice new has. changed_wards IsSplitStep (λ page notice. SplitAt page (Ok notice)) (λ before page notice left change. (change, ap (λ (w : WardState AnyKeyer). w.journal) change.others)) ward page notice new has;
        merge = λ ward page notice new has. changed_wards IsMergeStep (λ page notice. MergeAt page (Ok notice)) (λ before page notice left change. (change, ap (λ (w : WardState AnyKeyer). w.journal) change.others)) ward page notice new has;
        taken = λ copy ward index notice new has. same_wards new (ap (λ (w : ScriptWorld). w.wards) has.after) (ap (λ (w : ScriptWorld). w.ward_bits) has.after) (ap (λ (w : ScriptWorld). w.keyer) has.after);
        sent = λ copy number new has. same_wards new (ap (λ (w : ScriptWorld). w.wards) has.after) (ap (λ (w : ScriptWorld). w.ward_bits) has.after) (ap (λ (w : ScriptWorld). w.keyer) has.after);
        joined = λ copy table new has. same_wards new (ap (λ (w : ScriptWorld). w.wards) has.after) (ap (λ (w : ScriptWorld). w.ward_bits) has.after) (ap (λ (w : ScriptWorld). w.keyer) has.after);
        restarted = λ copy new has. same_wards new (ap (λ (w : ScriptWorld). w.wards) has.after) (ap (λ (w : ScriptWorld). w.ward_bits) has.after) (ap (λ (w : ScriptWorld). w.keyer) has.after);
      }

      pub wards_left : (event : Event) (result : Result Outcome StepFault) (new : ScriptWorld) → Step any_pseudokey old event result new → AreWardsLeft old (map journal_entry_of (answered_at old event result)) new
      wards_left event (Ok outcome) new step = by_effect event outcome new step
      wards_left event (Err fault) new step =
          let P : List _ → ScriptWorld → Type 0 = λ answered. AreWardsLeft old (map journal_entry_of answered) in
          subst (λ answered. P answered new) (sym (none_answered old event fault)) (on_refusal any_pseudokey old (P []) itself failure_counted event fault new step)
