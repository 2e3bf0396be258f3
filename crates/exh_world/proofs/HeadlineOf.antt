-- Every run of sound worlds carries the headline.
use Rattle.std.proofs.Common.{◌≡◌, ℕ, List, [], ◌∷◌, map, Some, refl, sym, ap, ◌∙◌, subst}
use Rattle.std.specs.Prelude.{◌≢◌, Result, Ok, Err}
use Rattle.std.specs.FinMap.{entries}
use Rattle.std.specs.List.{AllByRecursion}
use Rattle.std.proofs.lemmas.List.Elements.{All-from_recursion}
use Rattle.exh_table.specs.TableLaws.{OwnEntries, OneNoticeMore, UnionIsJoin, MembersDecide}
use Rattle.exh_table.specs.Table.{IsTableOf}
use Rattle.exh_table.specs.TableLemmas.{table_laws}
use Rattle.exh_table.specs.TableOrder.{table_join}
use Rattle.exh_calls.specs.CallLaws.{SharersBegin}
use Rattle.exh_world.specs.Headline.{AreTablesOfTaken, AreEqualCopies, IsCombined, CombinesLeast, IsNamed, DoesNotStray, IsHeadline}
use Rattle.exh_world.specs.WorldLaws.{AreWardsSound, StepsKeepWorldsSound}
use Rattle.exh_world.specs.WorldRun.{Moment, IsRun, known_by, known_at_end, answered_in}
use Rattle.exh_world.specs.Sound.{IsSoundWorld}
use Rattle.exh_world.specs.Step.{HasJoined, HasHopped, HasEffect, Step}
use Rattle.exh_world.specs.World.{WorldState, numbered}
use Rattle.exh_walk.specs.declared.event.Event.{Event}
use Rattle.exh_walk.specs.declared.event.Event.TheVariants.{Combine}
use Rattle.exh_walk.specs.declared.outcome.Outcome.{Outcome}
use Rattle.exh_walk.specs.declared.outcome.Outcome.TheVariants.{Hopped}
use Rattle.exh_walk.specs.EventProgress.{Progress, Done, Moved, MustSplit, Stray, hop_outcome}
use Rattle.exh_ward.specs.declared.hop.Hop.TheVariants as hops
use Rattle.exh_walk.specs.declared.step_fault.StepFault.{StepFault}
use Rattle.exh_walk.specs.declared.turn.Turn.{Turn}
use Rattle.exh_world.specs.StepEffectLemmas.{on_effect}
use Rattle.exh_world.proofs.Known.{IsKnown, own_sets, set_of}
use Rattle.exh_world.specs.WorldListLemmas.{numbered_here}
use Rattle.exh_world.proofs.RunFacts.{AreSound, IsRunFrom, run_from}
use Rattle.exh_world.proofs.StepSound.{does_not_stray}

-- ---- one step

joined_least : {K : Type 0} (old new : WorldState K) (copy table : ℕ) (event : Event) (result : Result Outcome StepFault) → HasJoined old copy table new → IsCombined (record { before = old; turn = record { event = event; result = result }; after = new }) copy table
joined_least old new copy table event result has = record {
  own = has.own;
  there = has.there;
  other = has.other;
  sent = has.sent;
  joined = table_join has.own has.other;
  left = ap (λ (w : WorldState _). numbered w.copies copy) has.after ∙ numbered_here old.copies copy has.own (table_join has.own has.other) has.there;
  bound = record {
    above_one = table_laws.bound.above_first has.own has.other;
    above_other = table_laws.bound.above_second has.own has.other;
    least = table_laws.bound.least has.own has.other;
  };
}

combined_by : {K : Type 0} (pseudokey_of : K → List ℕ → ℕ) (old new : WorldState K) (event : Event) (result : Result Outcome StepFault) → Step pseudokey_of old event result new → CombinesLeast (record { before = old; turn = record { event = event; result = result }; after = new })
combined_by pseudokey_of old new event result step copy table is joined =
    let P : Event → Result Outcome StepFault → Type 0 = λ e r. Step pseudokey_of old e r new in
    let has : HasJoined old copy table new = subst (P (Combine copy table)) joined (subst (λ e. P e result) is step) in
    joined_least old new copy table event result has

-- an effect whose outcome is a stray
abbrev StraysTo : {K : Type 0} → WorldState K → Event → Outcome → WorldState K → Type 0
StraysTo old event outcome new = (ward : ℕ) → outcome ≢ Hopped ward hops.Stray

stray_is : (ward other : ℕ) (hop : Progress) → hop_outcome ward hop ≡ Hopped other hops.Stray → hop ≡ Stray
stray_is ward other (Done reply moves bound) is = cc
stray_is ward other (Moved next) is = cc
stray_is ward other MustSplit is = cc
stray_is ward other Stray is = refl

strays_never : {K : Type 0} (pseudokey_of : K → List ℕ → ℕ) (old : WorldState K) → IsSoundWorld pseudokey_of old → (event : Event) (outcome : Outcome) (new : WorldState K) → HasEffect pseudokey_of old event outcome new → StraysTo old event outcome new
strays_never {K} pseudokey_of old sound = on_effect pseudokey_of old (StraysTo old) record {
  begun = λ name client copy call ward page new has other same. cc;
  hopped = λ name ward hop new has other same.
      let stray : hop ≡ Stray = stray_is ward other hop same in
      let P : _ → Type 0 = λ h. HasHopped pseudokey_of old name ward h new in
      does_not_stray pseudokey_of old sound new name ward (subst P stray has);
  split = λ ward page notice new has other same. cc;
  merge = λ ward page notice new has other same. cc;
  taken = λ copy ward index notice new has other same. cc;
  sent = λ copy number new has other same. cc;
  joined = λ copy table new has other same. cc;
  restarted = λ copy new has other same. cc;
}

stray_by : {K : Type 0} (pseudokey_of : K → List ℕ → ℕ) (old new : WorldState K) → IsSoundWorld pseudokey_of old → (event : Event) (result : Result Outcome StepFault) → Step pseudokey_of old event result new → DoesNotStray (record { before = old; turn = record { event = event; result = result }; after = new })
stray_by pseudokey_of old new sound event (Ok outcome) step ward same = strays_never pseudokey_of old sound event outcome new step ward (let is : outcome ≡ Hopped ward hops.Stray = cc in is)
stray_by pseudokey_of old new sound event (Err fault) step ward same = cc

-- ---- a run

-- the worlds before and after each step of a run from a sound world are sound, its wards being so
pub sound_around : {K : Type 0} (pseudokey_of : K → List ℕ → ℕ) → StepsKeepWorldsSound pseudokey_of → (start : WorldState K) (moments : List (Moment K)) (end : WorldState K) → IsSoundWorld pseudokey_of start
    → AllByRecursion (λ (moment : Moment K). AreWardsSound pseudokey_of moment.after) moments → IsRun pseudokey_of start moments end
    → AllByRecursion (λ (moment : Moment K). IsSoundWorld pseudokey_of moment.before × IsSoundWorld pseudokey_of moment.after) moments
sound_around pseudokey_of keep start [] end sound wards run = tt
sound_around pseudokey_of keep start (moment ∷ moments) end sound wards run =
    let after = keep start moment.turn.event moment.turn.result moment.after sound run.1 wards.0 in
    ((subst (IsSoundWorld pseudokey_of) (sym run.0) sound, after), sound_around pseudokey_of keep moment.after moments end after wards.1 run.2)

module _ {K : Type 0} (pseudokey_of : K → List ℕ → ℕ) (own : OwnEntries) (more : OneNoticeMore) (union : UnionIsJoin) (decide : MembersDecide) (sharers : SharersBegin) where
  abbrev Sound : List (Moment K) → Type 0
  Sound moments = AreSound pseudokey_of own more union sharers moments

  step_of : (start : WorldState K) (moment : Moment K) → moment.before ≡ start → Step pseudokey_of start moment.turn.event moment.turn.result moment.after → Step pseudokey_of moment.before moment.turn.event moment.turn.result moment.after
  step_of start moment is step = let P : WorldState K → Type 0 = λ w. Step pseudokey_of w moment.turn.event moment.turn.result moment.after in subst P (sym is) step

  all_combined : (start : WorldState K) (moments : List (Moment K)) (end : WorldState K) → IsRun pseudokey_of start moments end → AllByRecursion (CombinesLeast {K = K}) moments
  all_combined start [] end run = tt
  all_combined start (moment ∷ moments) end run = (combined_by pseudokey_of moment.before moment.after moment.turn.event moment.turn.result (step_of start moment run.0 run.1), all_combined moment.after moments end run.2)

  none_strays : (start : WorldState K) (moments : List (Moment K)) (end : WorldState K) → Sound moments → IsRun pseudokey_of start moments end → AllByRecursion (DoesNotStray {K = K}) moments
  none_strays start [] end sound run = tt
  none_strays start (moment ∷ moments) end sound run = (stray_by pseudokey_of moment.before moment.after sound.0.0 moment.turn.event moment.turn.result (step_of start moment run.0 run.1), none_strays moment.after moments end sound.1 run.2)

  module _ (start : WorldState K) (moments : List (Moment K)) (end : WorldState K) (sound : Sound moments) (run : IsRun pseudokey_of start moments end) where
    facts : IsRunFrom pseudokey_of own more union sharers start moments end
    facts = run_from pseudokey_of own more union sharers start moments end sound run

    abbrev turns : List Turn
    turns = map (λ (m : Moment K). m.turn) moments

    known : IsKnown (known_at_end (entries start.start) (known_by start) turns) end.copies end.sent
    known = facts.known (known_by start) (record { copies_are = own_sets own start.copies; sent_are = own_sets own start.sent })

    tables : AreTablesOfTaken start turns end
    tables copy table is = set_of (known_at_end (entries start.start) (known_by start) turns).copies end.copies known.copies_are copy table is

    equal : AreEqualCopies start turns end
    equal one other table twin taken taken_too is too first second same =
        let of_one = tables one table is in
        let of_other = tables other twin too in
        let one_is : of_one.0 ≡ taken = let both : Some of_one.0 ≡ Some taken = sym of_one.1 ∙ first in cc in
        let other_is : of_other.0 ≡ taken_too = let both : Some of_other.0 ≡ Some taken_too = sym of_other.1 ∙ second in cc in
        decide taken taken_too table twin (λ pair. same pair.0 pair.1) (subst (λ told. IsTableOf told table) one_is of_one.2) (subst (λ told. IsTableOf told twin) other_is of_other.2)

    -- the headline, over these moments
    pub headline : (over : IsHeadline pseudokey_of start turns end) × (over.moments ≡ moments)
    headline = (
      record {
        moments = moments;
        turns_are = refl;
        run = run;
        tables = tables;
        equal = equal;
        combined = All-from_recursion (CombinesLeast {K = K}) moments (all_combined start moments end run);
        named = All-from_recursion (IsNamed start.start start.ward_bits) (answered_in moments) facts.named_all;
        one_map = record { replies = facts.history; left = facts.left };
        no_stray = All-from_recursion (DoesNotStray {K = K}) moments (none_strays start moments end sound run);
      },
      refl,
    )
