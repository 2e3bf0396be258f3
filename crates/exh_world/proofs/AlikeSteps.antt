-- A step of a world is one of each world that is alike, since nothing that it asks of a ward is the ward's count of page faults.
use Rattle.std.proofs.Common.{◌≡◌, ℕ, ◌+◌, ◌-◌, drop, Bool, List, [], ◌∷◌, ◌++◌, length, map, slice_get, Option, Some, None, IsSome, Result, Ok, Err, inl, inr, refl, sym, ap, ◌∙◌, subst}
use Rattle.std.specs.Prelude.{slice_set, Contains}
use Rattle.std.specs.Option.{option_map, option_map_or}
use Rattle.std.proofs.lemmas.List.{map-set}
use Rattle.std.proofs.lemmas.Option.{slice_get-map}
use Rattle.exh_notice.specs.declared.notice.Notice.{Notice}
use Rattle.exh_table.specs.Table.{table_with}
use Rattle.exh_table.specs.TableOrder.{table_join}
use Rattle.exh_calls.specs.declared.call.Call.{Call}
use Rattle.exh_walk.specs.declared.event.Event.{Event}
use Rattle.exh_walk.specs.declared.event.Event.TheVariants.{Begin, Hop as HopOn, Split, Merge, Deliver, Send, Combine, Restart}
use Rattle.exh_walk.specs.declared.outcome.Outcome.{Outcome}
use Rattle.exh_walk.specs.declared.outcome.Outcome.TheVariants.{Begun}
use Rattle.exh_walk.specs.declared.step_fault.StepFault.{StepFault}
use Rattle.exh_walk.specs.declared.step_fault.StepFault.TheVariants.{NameTaken, NoCopy, NoRequest, NoWard, NoNotice, NoTable, Ward}
use Rattle.exh_walk.specs.EventProgress.{hop_in, progress_with, Progress, hop_outcome}
use Rattle.exh_page.specs.declared.record.Record.{Record}
use Rattle.exh_ward.specs.WardState.{WardState, LeavesAfter}
use Rattle.exh_ward.specs.MergeStep.{IsLeftChild, IsMergeStep}
use Rattle.exh_ward.specs.SplitStep.{IsSplitStep}
use Rattle.exh_ward.specs.WardFault.{MergeRefused, SplitRefused}
use Rattle.exh_ward.specs.declared.hop.Hop.{Hop}
use Rattle.exh_ward.specs.declared.hop.Hop.TheVariants.{Done, Moved, MustSplit, Stray}
use Rattle.exh_ward.specs.declared.ward_fault.WardFault.{WardFault}
use Rattle.exh_ward.specs.declared.ward_fault.WardFault.TheVariants.{NoPage, NotLive, NoBuddy, BuddySplit, TooMany, Worn, Memory, Page}
use Rattle.exh_world.specs.Alike.{AreAlike, StepsGoAlike, uncounted}
use Rattle.exh_world.specs.AlikeLemmas.{counting, fault_alike, fault_too, ward_there}
use Rattle.exh_world.specs.InFlight.{requests_after}
use Rattle.exh_world.specs.Step.{HasBegun, HasHopped, HasChanged, HasEffect, IsChangeRefused, IsRefused, ReachesInto, Step, pseudokey_in, request_begun}
use Rattle.exh_world.specs.World.{WorldState, changes_in}
use Rattle.exh_world.specs.StepEffectLemmas.{hopped_step, on_effect}
use Rattle.exh_world.specs.WorldListLemmas.{altered_has}

-- ---- wards

module _ {K : Type 0} where
  left_child : (failures : ℕ) (ward : WardState K) (at : ℕ) (prefix : List Bool) (records : List Record) → IsLeftChild ward at prefix records → IsLeftChild (counting failures ward) at prefix records
  left_child failures ward at prefix records is = record { link = is.link; there = is.there; inner = is.inner }

  merge_refused : (failures : ℕ) (ward : WardState K) (at : ℕ) (fault : WardFault) → MergeRefused ward at fault → MergeRefused (counting failures ward) at fault
  merge_refused failures ward at NoPage is = is
  merge_refused failures ward at NotLive is = is
  merge_refused failures ward at NoBuddy is = is
  merge_refused failures ward at BuddySplit (prefix, records, left, none) = (prefix, records, left_child failures ward at prefix records left, none)
  merge_refused failures ward at (TooMany sum) (prefix, records, others, left, buddy, sum_is, above) = (prefix, records, others, left_child failures ward at prefix records left, buddy, sum_is, above)
  merge_refused failures ward at Worn (prefix, records, others, left, buddy, few, worn) = (prefix, records, others, left_child failures ward at prefix records left, buddy, few, worn)
  merge_refused failures ward at Memory is = is
  merge_refused failures ward at Page is = is
  merge_refused failures ward at fault is = absurd is

  split_step : (failures : ℕ) (old : WardState K) (at : ℕ) (notice : Notice) (new : WardState K) → IsSplitStep old at notice new → IsSplitStep (counting failures old) at notice (counting failures new)
  split_step failures old at notice new is = record { right = is.right; split = is.split; notice_is = is.notice_is; map = is.map; places = is.places; others = ap (counting failures) is.others }

  merge_step : (failures : ℕ) (old : WardState K) (at : ℕ) (notice : Notice) (new : WardState K) → IsMergeStep old at notice new → IsMergeStep (counting failures old) at notice (counting failures new)
  merge_step failures old at notice new is = record { merge = is.merge; notice_is = is.notice_is; map = is.map; places = is.places; others = ap (counting failures) is.others }

  leaves_after : (pseudokey_of : K → List ℕ → ℕ) (failures : ℕ) (old : WardState K) (at client : ℕ) (call : Call) (hop : Hop) (new : WardState K) → LeavesAfter pseudokey_of old at client call hop new
      → LeavesAfter pseudokey_of (counting failures old) at client call hop (counting failures new)
  leaves_after pseudokey_of failures old at client call (Done reply) new is = record { pages = is.pages; map = is.map; journal = is.journal; others = ap (counting failures) is.others }
  leaves_after pseudokey_of failures old at client call (Moved next) new is = ap (counting failures) is
  leaves_after pseudokey_of failures old at client call MustSplit new is = ap (counting failures) is
  leaves_after pseudokey_of failures old at client call Stray new is = ap (counting failures) is

  -- ---- lists of wards that are equal but for their counts

  module _ (wards others : List (WardState K)) (same : map (counting 0) wards ≡ map (counting 0) others) where
    none_of : (found : Option (WardState K)) → option_map (counting 0) found ≡ None → found ≡ None
    none_of None is = refl
    none_of (Some ward) is = cc

    ward_missing : (at : ℕ) → slice_get wards at ≡ None → slice_get others at ≡ None
    ward_missing at none =
        none_of (slice_get others at) (sym (slice_get-map (counting 0) others at) ∙ ap (λ ws. slice_get ws at) (sym same) ∙ slice_get-map (counting 0) wards at ∙ ap (option_map (counting 0)) none)

    some_of : (found : Option (WardState K)) → IsSome (option_map (counting 0) found) → IsSome found
    some_of None is = is
    some_of (Some ward) is = is

    of_some : (found : Option (WardState K)) → IsSome found → IsSome (option_map (counting 0) found)
    of_some None is = is
    of_some (Some ward) is = is

    ward_present : (at : ℕ) → IsSome (slice_get wards at) → IsSome (slice_get others at)
    ward_present at some =
        some_of (slice_get others at) (subst IsSome (sym (slice_get-map (counting 0) wards at) ∙ ap (λ ws. slice_get ws at) same ∙ slice_get-map (counting 0) others at) (of_some (slice_get wards at) some))

    same_notices : (number : ℕ) → option_map_or (λ ward. ward.notices) (slice_get wards number) [] ≡ option_map_or (λ ward. ward.notices) (slice_get others number) []
    same_notices number =
        let notices : WardState K → List Notice = λ ward. ward.notices in
        sym (altered_has (counting 0) notices (λ ward. refl) [] wards number) ∙ ap (λ ws. option_map_or notices (slice_get ws number) []) same ∙ altered_has (counting 0) notices (λ ward. refl) [] others number

    set_alike : (at : ℕ) (failures : ℕ) (left : WardState K) → map (counting 0) (slice_set wards at left) ≡ map (counting 0) (slice_set others at (counting failures left))
    set_alike at failures left = map-set (counting 0) wards at left ∙ ap (λ ws. slice_set ws at (counting 0 left)) same ∙ sym (map-set (counting 0) others at (counting failures left))

-- ---- refused steps

-- they leave a world that is alike
pub refused_alike : {K : Type 0} (pseudokey_of : K → List ℕ → ℕ) (old : WorldState K) (event : Event) (fault : StepFault) (new : WorldState K) → Step pseudokey_of old event (Err fault) new → AreAlike new old
refused_alike pseudokey_of old event fault new (inl (same, reason)) = ap uncounted same
refused_alike pseudokey_of old event fault new (inr (page, number, reaches, counts)) = fault_alike old new number counts

-- ---- the steps of a world that is equal but for the counts of its wards

module _ {K : Type 0} (pseudokey_of : K → List ℕ → ℕ) (old : WorldState K) (wards : List (WardState K)) (same : map (counting 0) old.wards ≡ map (counting 0) wards) where
  abbrev twin : WorldState K
  twin = record old { wards = wards }

  -- what a step of the twin comes to: it is one, to a world that is like the first one's
  abbrev Follows : Event → Result Outcome StepFault → WorldState K → Type 0
  Follows event result new = (left : WorldState K) × Step pseudokey_of twin event result left × AreAlike new left

  changes_alike : (number : ℕ) → changes_in old number ≡ changes_in twin number
  changes_alike number = ap (λ issued. option_map_or (λ noticed. drop noticed issued) (slice_get old.noticed number) []) (same_notices old.wards wards same number)

  begun : (name client copy : ℕ) (call : Call) (ward page : ℕ) (new : WorldState K) → HasBegun pseudokey_of old name client copy call ward page new → Follows (Begin name client copy call) (Ok (Begun ward page)) new
  begun name client copy call ward page new has =
      let found = ward_there old.wards wards same ward has.before has.found in
      let requests = λ (changes : List Notice). old.in_flight ++ (name, request_begun client call (pseudokey_in pseudokey_of old call) ward page has.distance (length changes)) ∷ [] in (
        record twin { in_flight = requests (changes_in twin ward) },
        record { free = has.free; table = has.table; there = has.there; ward_is = has.ward_is; page_is = has.page_is; before = counting found.0 has.before; found = found.1; distance = has.distance; is_distance = has.is_distance; after = refl },
        ap uncounted has.after ∙ ap (λ changes. record (uncounted old) { in_flight = requests changes }) (changes_alike ward) ∙ ap (λ ws. record twin { wards = ws; in_flight = requests (changes_in twin ward) }) same,
      )

  hopped : (name ward : ℕ) (hop : Progress) (new : WorldState K) → HasHopped pseudokey_of old name ward hop new → Follows (HopOn name) (Ok (hop_outcome ward hop)) new
  hopped name ward hop new has =
      let found = ward_there old.wards wards same ward has.before has.found in
      let left = counting found.0 has.left in
      let requests = requests_after name (hop_in hop) old.in_flight in
      let bound = λ (changes : List Notice). progress_with (hop_in hop) has.request.moves (has.request.distance + (length changes - has.request.changes)) in (
        record twin { wards = slice_set wards ward left; in_flight = requests },
        hopped_step pseudokey_of twin name ward hop (record twin { wards = slice_set wards ward left; in_flight = requests }) (record {
          request = has.request;
          there = has.there;
          ward_is = has.ward_is;
          before = counting found.0 has.before;
          found = found.1;
          outcome = has.outcome;
          counted = has.counted ∙ ap bound (changes_alike has.request.ward);
          left = left;
          leaves = leaves_after pseudokey_of found.0 has.before has.request.page has.request.client has.request.call (hop_in hop) has.left has.leaves;
          after = refl;
        }),
        ap uncounted has.after ∙ ap (λ ws. record old { wards = ws; in_flight = requests }) (set_alike old.wards wards same ward found.0 has.left),
      )

  module _ (Changes : WardState K → ℕ → Notice → WardState K → Type 0) (counted : (failures : ℕ) (before : WardState K) (at : ℕ) (notice : Notice) (left : WardState K) → Changes before at notice left → Changes (counting failures before) at notice (counting failures left)) where
    changed : (ward page : ℕ) (notice : Notice) (new : WorldState K) → HasChanged Changes old ward page notice new → (left : WorldState K) × HasChanged Changes twin ward page notice left × AreAlike new left
    changed ward page notice new has =
        let found = ward_there old.wards wards same ward has.before has.found in (
          record twin { wards = slice_set wards ward (counting found.0 has.left) },
          record { before = counting found.0 has.before; found = found.1; left = counting found.0 has.left; change = counted found.0 has.before page notice has.left has.change; after = refl },
          ap uncounted has.after ∙ ap (λ ws. record old { wards = ws }) (set_alike old.wards wards same ward found.0 has.left),
        )

  -- a step that leaves the wards as they were
  beside : (left : WorldState K) (new : WorldState K) → new ≡ record left { wards = old.wards } → AreAlike new (record left { wards = wards })
  beside left new is = ap uncounted is ∙ ap (λ ws. record left { wards = ws }) same

  effect_follows : (event : Event) (outcome : Outcome) (new : WorldState K) → HasEffect pseudokey_of old event outcome new → Follows event (Ok outcome) new
  effect_follows = on_effect pseudokey_of old (λ event outcome new. Follows event (Ok outcome) new) record {
    begun = begun;
    hopped = hopped;
    split = changed IsSplitStep split_step;
    merge = changed IsMergeStep merge_step;
    taken = λ copy ward index notice new has.
        let left = record twin { copies = slice_set old.copies (copy - 1) (table_with has.table notice) } in
        (left, record { table = has.table; there = has.there; issued = subst (λ issued. Contains issued notice) (same_notices old.wards wards same ward) has.issued; index_is = has.index_is; after = refl }, beside left new has.after);
    sent = λ copy number new has.
        let left = record twin { sent = old.sent ++ has.table ∷ [] } in
        (left, record { table = has.table; there = has.there; number_is = has.number_is; after = refl }, beside left new has.after);
    joined = λ copy table new has.
        let left = record twin { copies = slice_set old.copies (copy - 1) (table_join has.own has.other) } in
        (left, record { own = has.own; there = has.there; other = has.other; sent = has.sent; after = refl }, beside left new has.after);
    restarted = λ copy new has.
        let left = record twin { copies = slice_set old.copies (copy - 1) old.start } in
        (left, record { own = has.own; there = has.there; after = refl }, beside left new has.after);
  }

  -- ---- refusals

  change_refused : (Refuses : WardState K → ℕ → WardFault → Type 0) → ((failures : ℕ) (before : WardState K) (at : ℕ) (fault : WardFault) → Refuses before at fault → Refuses (counting failures before) at fault)
      → (ward page : ℕ) (fault : StepFault) → IsChangeRefused old Refuses ward page fault → IsChangeRefused twin Refuses ward page fault
  change_refused Refuses counted ward page NoWard is = ward_missing old.wards wards same ward is
  change_refused Refuses counted ward page (Ward fault) (before, found, refused, other) =
      let there = ward_there old.wards wards same ward before found in (counting there.0 before, there.1, counted there.0 before page fault refused, other)
  change_refused Refuses counted ward page fault is = absurd is

  reason_holds : (event : Event) (fault : StepFault) → IsRefused old event fault → IsRefused twin event fault
  reason_holds (Begin name client copy call) NameTaken is = is
  reason_holds (Begin name client copy call) NoCopy is = is
  reason_holds (HopOn name) NoRequest is = is
  reason_holds (Split ward page) fault is = change_refused (λ before. SplitRefused before.cap before.pages) (λ failures before at fault is. is) ward page fault is
  reason_holds (Merge ward page) fault is = change_refused MergeRefused merge_refused ward page fault is
  reason_holds (Deliver copy ward index) NoCopy is = is
  reason_holds (Deliver copy ward index) NoWard (there, none) = (there, ward_missing old.wards wards same ward none)
  reason_holds (Deliver copy ward index) NoNotice (there, some, none) =
      (there, ward_present old.wards wards same ward some, λ notice among. none notice (subst (λ issued. Contains issued notice) (sym (same_notices old.wards wards same ward)) among))
  reason_holds (Send copy) NoCopy is = is
  reason_holds (Combine copy table) NoCopy is = is
  reason_holds (Combine copy table) NoTable is = is
  reason_holds (Restart copy) NoCopy is = is
  reason_holds event fault is = absurd is

  reach_alike : (event : Event) (number : ℕ) → ReachesInto pseudokey_of old event number → ReachesInto pseudokey_of twin event number
  reach_alike (Begin name client copy call) number is = is
  reach_alike (HopOn name) number is = is
  reach_alike (Split ward page) number is = is
  reach_alike (Merge ward page) number is = is
  reach_alike event number is = absurd is

  abbrev twin_alike : AreAlike old twin
  twin_alike = ap (λ ws. record old { wards = ws }) same

  refusal_follows : (event : Event) (fault : StepFault) (new : WorldState K) → Step pseudokey_of old event (Err fault) new → Follows event (Err fault) new
  refusal_follows event fault new (inl (kept, inl reason)) = (twin, inl (refl, inl (reason_holds event fault reason)), ap uncounted kept ∙ twin_alike)
  refusal_follows event fault new (inl (kept, inr memory)) = (twin, inl (refl, inr memory), ap uncounted kept ∙ twin_alike)
  refusal_follows event fault new (inr (page, number, reaches, counts)) =
      let too = fault_too old new number counts twin twin_alike in (too.0, inr (page, number, reach_alike event number reaches, too.1), too.2)

  step_follows : (event : Event) (result : Result Outcome StepFault) (new : WorldState K) → Step pseudokey_of old event result new → Follows event result new
  step_follows event (Ok outcome) new step = effect_follows event outcome new step
  step_follows event (Err fault) new step = refusal_follows event fault new step

pub steps_alike : {K : Type 0} (pseudokey_of : K → List ℕ → ℕ) → StepsGoAlike pseudokey_of
steps_alike {K} pseudokey_of old event result new step other alike =
    let with_own : WorldState K → WorldState K = λ world. record world { wards = other.wards } in
    let other_is : record old { wards = other.wards } ≡ other = ap with_own alike in
    let P : WorldState K → Type 0 = λ world. (left : WorldState K) × Step pseudokey_of world event result left × AreAlike new left in
    subst P other_is (step_follows pseudokey_of old other.wards (ap (λ (world : WorldState K). world.wards) alike) event result new step)
