-- What one step that isn't refused does to the map, to what copies know, and what it answers.
use Rattle.std.proofs.Common.{◌≡◌, ℕ, List, [], ◌∷◌, map, slice_get, Some, refl, sym, ap, ◌∙◌, subst}
use Rattle.std.specs.Prelude.{slice_set, flat_map, Ok}
use Rattle.std.specs.FinMap.{entries}
use Rattle.std.specs.List.{AllByRecursion}
use Rattle.std.specs.Option.{option_map_or}
use Rattle.exh_prefix.specs.Prefix.{Begins}
use Rattle.exh_prefix.specs.PrefixListLemmas.{set_same}
use Rattle.exh_notice.specs.declared.notice.Notice.{Notice}
use Rattle.exh_table.specs.Directory.{IsName}
use Rattle.exh_table.specs.TableLaws.{OwnEntries, OneNoticeMore, UnionIsJoin}
use Rattle.exh_table.specs.Leaves.{ward_leaves}
use Rattle.exh_prefix.specs.Leading.{ward_prefix}
use Rattle.exh_legal.specs.Pages.{map_of}
use Rattle.exh_calls.specs.Call.{key_of}
use Rattle.exh_calls.specs.MapMachine.{map_after}
use Rattle.exh_ward.specs.WardState.{WardState}
use Rattle.exh_ward.specs.MergeStep.{IsMergeStep}
use Rattle.exh_ward.specs.SplitStep.{IsSplitStep}
use Rattle.exh_calls.specs.CallLaws.{SharersBegin}
use Rattle.exh_calls.specs.HistoryLemmas.{MapGoes}
use Rattle.exh_world.specs.Headline.{IsNamed}
use Rattle.exh_world.specs.WorldRun.{Knowledge, known_after, answered_by, answered_at, journal_entry_of}
use Rattle.exh_world.specs.Sound.{IsOnTheWay, IsSoundWorld}
use Rattle.exh_world.specs.Step.{HasHopped, HasChanged, HasEffect}
use Rattle.exh_world.specs.World.{WorldState, map_in}
use Rattle.exh_walk.specs.declared.event.Event.{Event}
use Rattle.exh_walk.specs.declared.event.Event.TheVariants.{Begin, Hop as HopOn, Split, Merge, Deliver, Send, Combine, Restart}
use Rattle.exh_walk.specs.declared.outcome.Outcome.{Outcome}
use Rattle.exh_walk.specs.declared.outcome.Outcome.TheVariants.{Begun, Replied, Changed, Taken, Sent, Joined, Restarted}
use Rattle.exh_walk.specs.EventProgress.{Progress, Done, Moved, MustSplit, Stray, hop_outcome}
use Rattle.exh_world.specs.StepEffectLemmas.{on_effect}
use Rattle.exh_world.proofs.Known.{IsKnown, taken_known, joined_known, sent_known, restarted_known}
use Rattle.exh_world.proofs.Named.{named}
use Rattle.exh_world.specs.RequestLemmas.{all_named}
use Rattle.exh_world.proofs.WorldMaps.{same_map, one_reply, map_answered}

-- the settings of a world, which no step changes
pub record IsOf {K : Type 0} (old new : WorldState K) : Type 0 where
  pub cap : new.cap ≡ old.cap
  pub bits : new.ward_bits ≡ old.ward_bits
  pub keyer : new.keyer ≡ old.keyer
  pub start : new.start ≡ old.start

pub record IsStepped {K : Type 0} (pseudokey_of : K → List ℕ → ℕ) (old : WorldState K) (event : Event) (outcome : Outcome) (new : WorldState K) : Type 0 where
  pub same : IsOf old new
  pub known : (known : Knowledge) → IsKnown known old.copies old.sent → IsKnown (known_after (entries old.start) known event (Ok outcome)) new.copies new.sent
  -- the map goes as the map machine has it for the answered call, if there is one
  pub goes : MapGoes old.cap (pseudokey_of old.keyer) (map_in old) (map journal_entry_of (answered_at old event (Ok outcome))) (map_in new)
  pub named_all : AllByRecursion (IsNamed old.start old.ward_bits) (answered_at old event (Ok outcome))

module _ {K : Type 0} (pseudokey_of : K → List ℕ → ℕ) (old : WorldState K) (sound : IsSoundWorld pseudokey_of old)
    (own : OwnEntries) (more : OneNoticeMore) (union : UnionIsJoin) (sharers : SharersBegin) where
  -- of an event that is no hop, and leaves the wards
  quiet : (event : Event) (outcome : Outcome) (new then : WorldState K) → new ≡ then → IsOf old then → map_in then ≡ map_in old
      → ((known : Knowledge) → IsKnown known old.copies old.sent → IsKnown (known_after (entries old.start) known event (Ok outcome)) then.copies then.sent)
      → answered_at old event (Ok outcome) ≡ [] → IsStepped pseudokey_of old event outcome new
  quiet event outcome new then is same goes known none = subst (IsStepped pseudokey_of old event outcome) (sym is) record {
    same = same;
    known = known;
    goes = subst (λ answered. MapGoes old.cap (pseudokey_of old.keyer) (map_in old) (map journal_entry_of answered) (map_in then)) (sym none) goes;
    named_all = subst (AllByRecursion (IsNamed old.start old.ward_bits)) (sym none) tt;
  }

  itself : IsOf old old
  itself = record { cap = refl; bits = refl; keyer = refl; start = refl }

  -- ---- a hop

  module _ (name ward : ℕ) (hop : Progress) (new : WorldState K) (has : HasHopped pseudokey_of old name ward hop new) where
    way : IsOnTheWay pseudokey_of old has.request
    way = all_named (IsOnTheWay pseudokey_of old) name old.in_flight has.request sound.requests has.there

    found : slice_get old.wards has.request.ward ≡ Some has.before
    found = subst (λ n. slice_get old.wards n ≡ Some has.before) has.ward_is has.found

    wards_are : new.wards ≡ slice_set old.wards has.request.ward has.left
    wards_are = ap (λ (w : WorldState K). w.wards) has.after ∙ ap (λ n. slice_set old.wards n has.left) has.ward_is

    hop_same : IsOf old new
    hop_same = record { cap = ap (λ (w : WorldState K). w.cap) has.after; bits = ap (λ (w : WorldState K). w.ward_bits) has.after; keyer = ap (λ (w : WorldState K). w.keyer) has.after; start = ap (λ (w : WorldState K). w.start) has.after }

    hop_known : (known : Knowledge) → IsKnown known old.copies old.sent → IsKnown known new.copies new.sent
    hop_known known is = subst (λ copies. IsKnown known copies new.sent) (sym (ap (λ (w : WorldState K). w.copies) has.after)) (subst (IsKnown known old.copies) (sym (ap (λ (w : WorldState K). w.sent) has.after)) is)

    -- a hop that doesn't answer leaves the wards
    left_alone : has.left ≡ has.before → map_in new ≡ map_in old
    left_alone same =
        let wards : new.wards ≡ old.wards = wards_are ∙ ap (slice_set old.wards has.request.ward) same ∙ set_same old.wards has.request.ward has.before found in
        ap (λ wards. map_of (flat_map (λ (w : WardState K). w.pages) wards)) wards

  hopped : (name ward : ℕ) (hop : Progress) (new : WorldState K) → HasHopped pseudokey_of old name ward hop new → IsSoundWorld pseudokey_of new → IsStepped pseudokey_of old (HopOn name) (hop_outcome ward hop) new
  hopped name ward (Moved next) new has new_sound = record { same = hop_same name ward (Moved next) new has; known = hop_known name ward (Moved next) new has; goes = left_alone name ward (Moved next) new has has.leaves; named_all = tt }
  hopped name ward MustSplit new has new_sound = record { same = hop_same name ward MustSplit new has; known = hop_known name ward MustSplit new has; goes = left_alone name ward MustSplit new has has.leaves; named_all = tt }
  hopped name ward Stray new has new_sound = record { same = hop_same name ward Stray new has; known = hop_known name ward Stray new has; goes = left_alone name ward Stray new has has.leaves; named_all = tt }
  hopped name ward (Done reply moves bound) new has new_sound =
      let there = found name ward (Done reply moves bound) new has in
      let on_way = way name ward (Done reply moves bound) new has in
      let same = hop_same name ward (Done reply moves bound) new has in
      let wards = wards_are name ward (Done reply moves bound) new has in
      let request = has.request in
      let answered : answered_at old (HopOn name) (Ok (Replied ward reply moves bound)) ≡ answered_by old reply moves bound request ∷ [] = ap (λ found. option_map_or (λ request. answered_by old reply moves bound request ∷ []) found []) has.there in
      let begins : Begins (ward_prefix old.ward_bits request.ward) (pseudokey_of old.keyer (key_of request.call)) = subst (Begins (ward_prefix old.ward_bits request.ward)) on_way.pseudokey_is on_way.begins in
      let own_ward = sound.wards request.ward has.before there in
      let left_map : map_of has.left.pages ≡ map_after old.cap (pseudokey_of old.keyer) (map_of has.before.pages) request.call =
      has.leaves.map ∙ ap (λ cap. map_after cap (pseudokey_of has.before.keyer) (map_of has.before.pages) request.call) own_ward.cap ∙ ap (λ keyer. map_after old.cap (pseudokey_of keyer) (map_of has.before.pages) request.call) own_ward.keyer in
      record {
        same = same;
        known = hop_known name ward (Done reply moves bound) new has;
        goes = subst (λ answered. MapGoes old.cap (pseudokey_of old.keyer) (map_in old) (map journal_entry_of answered) (map_in new)) (sym answered) (
          has.outcome.4 ∙ sym (one_reply pseudokey_of old sound request.ward has.before has.left there new new_sound same.keyer same.bits wards sharers request.call begins),
          map_answered pseudokey_of old sound request.ward has.before has.left there new new_sound same.keyer same.bits wards sharers request.call begins left_map,
        );
        named_all = subst (AllByRecursion (IsNamed old.start old.ward_bits)) (sym answered) (
          subst (λ k. IsName (ward_leaves old.start (ward_prefix old.ward_bits request.ward) (answered_by old reply moves bound request).changes) k (answered_by old reply moves bound request).prefix) (sym on_way.pseudokey_is)
              (named pseudokey_of old sound request.ward has.before there (pseudokey_of old.keyer (key_of request.call)) request.page has.outcome.0 has.outcome.1.there has.outcome.2),
          tt,
        );
      }

  -- ---- a split, a merge

  changed_map : (ward : ℕ) (before left : WardState K) (new : WorldState K) → slice_get old.wards ward ≡ Some before → new ≡ record old { wards = slice_set old.wards ward left } → IsSoundWorld pseudokey_of new → map_of left.pages ≡ map_of before.pages → map_in new ≡ map_in old
  changed_map ward before left new there is new_sound same =
      same_map pseudokey_of old sound ward before left there new new_sound (ap (λ (w : WorldState K). w.keyer) is) (ap (λ (w : WorldState K). w.ward_bits) is) (ap (λ (w : WorldState K). w.wards) is) same

  same_wards : (wards : List (WardState K)) → IsOf old (record old { wards = wards })
  same_wards wards = record { cap = refl; bits = refl; keyer = refl; start = refl }

  split_stepped : (ward page : ℕ) (notice : Notice) (new : WorldState K) → HasChanged IsSplitStep old ward page notice new → IsSoundWorld pseudokey_of new → IsStepped pseudokey_of old (Split ward page) (Changed notice) new
  split_stepped ward page notice new has new_sound =
      let then : WorldState K = record old { wards = slice_set old.wards ward has.left } in
      let same = has.change.map in
      quiet (Split ward page) (Changed notice) new then has.after (same_wards (slice_set old.wards ward has.left))
      (sym (ap map_in has.after) ∙ changed_map ward has.before has.left new has.found has.after new_sound same) (λ known is. is) refl

  merge_stepped : (ward page : ℕ) (notice : Notice) (new : WorldState K) → HasChanged IsMergeStep old ward page notice new → IsSoundWorld pseudokey_of new → IsStepped pseudokey_of old (Merge ward page) (Changed notice) new
  merge_stepped ward page notice new has new_sound =
      let then : WorldState K = record old { wards = slice_set old.wards ward has.left } in
      let same = has.change.map in
      quiet (Merge ward page) (Changed notice) new then has.after (same_wards (slice_set old.wards ward has.left))
      (sym (ap map_in has.after) ∙ changed_map ward has.before has.left new has.found has.after new_sound same) (λ known is. is) refl

  -- ---- every step

  pub stepped : (event : Event) (outcome : Outcome) (new : WorldState K) → HasEffect pseudokey_of old event outcome new → IsSoundWorld pseudokey_of new → IsStepped pseudokey_of old event outcome new
  stepped = on_effect pseudokey_of old (λ event outcome new. IsSoundWorld pseudokey_of new → IsStepped pseudokey_of old event outcome new) record {
    begun = λ name client copy call ward page new has new_sound. quiet (Begin name client copy call) (Begun ward page) new _ has.after (record { cap = refl; bits = refl; keyer = refl; start = refl }) refl (λ known is. is) refl;
    hopped = hopped;
    split = split_stepped;
    merge = merge_stepped;
    taken = λ copy ward index notice new has new_sound. quiet (Deliver copy ward index) (Taken notice) new _ has.after (record { cap = refl; bits = refl; keyer = refl; start = refl }) refl
        (λ known is. taken_known known old.copies old.sent is more copy notice has.table has.there) refl;
    sent = λ copy number new has new_sound. quiet (Send copy) (Sent number) new _ has.after (record { cap = refl; bits = refl; keyer = refl; start = refl }) refl
        (λ known is. sent_known known old.copies old.sent is copy has.table has.there) refl;
    joined = λ copy table new has new_sound. quiet (Combine copy table) Joined new _ has.after (record { cap = refl; bits = refl; keyer = refl; start = refl }) refl
        (λ known is. joined_known known old.copies old.sent is union copy table has.own has.other has.there has.sent) refl;
    restarted = λ copy new has new_sound. quiet (Restart copy) Restarted new _ has.after (record { cap = refl; bits = refl; keyer = refl; start = refl }) refl
        (λ known is. restarted_known known old.copies old.sent is copy (entries old.start) old.start (own old.start)) refl;
  }
