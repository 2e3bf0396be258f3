-- A step as a relation gives what it gives as a function.
use Rattle.std.proofs.Common.{◌≡◌, ◌⊎◌, ℕ, zero, suc, Bool, true, false, List, [], ◌∷◌, ◌++◌, length, find, slice_get, Option, None, Some, Result, Ok, Err, inl, inr, refl, sym, ap, ◌∙◌, subst, arith}
use Rattle.std.specs.Prelude.{◌≢◌, Contains, IsSome, nat_eq, slice_set}
use Rattle.std.specs.Option.{option_map_or}
use Rattle.std.proofs.lemmas.Bool.{eq-eqb, eqb-true, false_from_ne_true}
use Rattle.std.proofs.lemmas.Option.{slice_get_read, slice_get_within, get_or_from_slice_get}
use Rattle.exh_notice.specs.declared.notice.Notice.{Notice}
use Rattle.exh_table.specs.Table.{TableMap, table_with}
use Rattle.exh_table.specs.TableOrder.{table_join}
use Rattle.exh_legal.specs.ChangeNumbers.{AreNumbered}
use Rattle.exh_ward.specs.HopTable.{hop_of}
use Rattle.exh_ward.specs.WardLaws.{HopsAreComputed, SplitsAreComputed, MergesAreComputed}
use Rattle.exh_ward.specs.MergeFunction.{merge_of, ward_after_merge}
use Rattle.exh_ward.specs.MergeStep.{IsMergeStep}
use Rattle.exh_ward.specs.WardFault.{MergeRefused, SplitRefused, IsStoreFault}
use Rattle.exh_ward.specs.SplitFunction.{split_of, ward_after_split}
use Rattle.exh_ward.specs.SplitStep.{IsSplitStep}
use Rattle.exh_ward.specs.WardState.{WardState, LeavesAfter, own_prefix}
use Rattle.exh_calls.specs.declared.call.Call.{Call}
use Rattle.exh_ward.specs.declared.hop.Hop.{Hop}
use Rattle.exh_ward.specs.declared.hop.Hop.TheVariants.{Done, Moved, MustSplit, Stray}
use Rattle.exh_ward.specs.declared.ward_fault.WardFault.{WardFault}
use Rattle.exh_ward.specs.declared.ward_fault.WardFault.TheVariants.{Memory, Page}
use Rattle.exh_walk.specs.DistanceFunction.{distance_of}
use Rattle.exh_walk.specs.RouteLaws.{DistancesAreComputed}
use Rattle.exh_world.specs.InFlight.{requests_after}
use Rattle.exh_walk.specs.EventProgress.{hop_in, Progress, hop_outcome}
use Rattle.exh_world.specs.WorldLaws.{HasVersionOfWord, IsComputed}
use Rattle.exh_world.specs.Sound.{IsSoundWorld}
use Rattle.exh_world.specs.Step.{pseudokey_in, request_begun, IsRefused, HasBegun, HasHopped, HasChanged, HasTaken, HasSent, HasJoined, HasRestarted, HasEffect, Step}
use Rattle.exh_world.specs.StepFunction.{Stepped, pages_in, request_at, request_from, begun, ward_after_hop, hopped, after_change, with_copy, step_of, result_of, world_after}
use Rattle.exh_world.specs.World.{WorldState, changes_in, numbered, issued_in}
use Rattle.exh_walk.specs.declared.event.Event.{Event}
use Rattle.exh_walk.specs.declared.event.Event.TheVariants.{Begin, Hop as HopOn, Split, Merge, Deliver, Send, Combine, Restart}
use Rattle.exh_walk.specs.declared.outcome.Outcome.{Outcome}
use Rattle.exh_walk.specs.declared.outcome.Outcome.TheVariants.{Begun, Changed, Taken, Sent, Joined, Restarted}
use Rattle.exh_world.specs.declared.request.Request.{Request}
use Rattle.exh_walk.specs.declared.step_fault.StepFault.{StepFault}
use Rattle.exh_walk.specs.declared.step_fault.StepFault.TheVariants.{NameTaken, NoCopy, NoRequest, NoWard, NoNotice, NoTable, Ward}
use Rattle.exh_world.specs.StepEffectLemmas.{on_effect}
use Rattle.exh_world.proofs.WardChanges.{memory_of}

-- ---- what is found

some_there : {A : Type 0} (found : Option A) → IsSome found → (x : A) × (found ≡ Some x)
some_there None is = cc
some_there (Some x) is = (x, refl)

pub place_of : {A : Type 0} (xs : List A) (x : A) → Contains xs x → (place : ℕ) × (slice_get xs place ≡ Some x)
place_of xs x is = (is.0, slice_get_read xs (length xs) is.0 x refl is.1 (sym is.2))

module _ (test : Notice → Bool) where
  find_one : (notices : List Notice) (place : ℕ) (notice : Notice) → slice_get notices place ≡ Some notice → test notice ≡ true
      → ((other : ℕ) (twin : Notice) → slice_get notices other ≡ Some twin → test twin ≡ true → twin ≡ notice) → find test notices ≡ Some notice
  find_one [] place notice is passes one = cc
  find_one (first ∷ notices) zero notice is passes one =
      let same : first ≡ notice = cc in
      rw (same, passes) refl
  find_one (first ∷ notices) (suc place) notice is passes one =
      elim (test first) as (λ b. test first ≡ b → find test (first ∷ notices) ≡ Some notice) [
        | true ↦ λ here. rw here (ap Some (one 0 first refl here))
        | false ↦ λ here. rw here (find_one notices place notice is passes (λ other twin. one (suc other) twin))
      ] refl

  find_none : (notices : List Notice) → ((place : ℕ) (notice : Notice) → slice_get notices place ≡ Some notice → test notice ≡ true → ⊥) → find test notices ≡ None
  find_none [] none = refl
  find_none (first ∷ notices) none =
      let fails : test first ≡ false = false_from_ne_true _ (none 0 first refl) in
      rw fails (find_none notices (λ place. none (suc place)))

module _ {K : Type 0} (pseudokey_of : K → List ℕ → ℕ) (old : WorldState K) where
  -- what a step is computed to be
  abbrev Is : Event → Result Outcome StepFault → WorldState K → Type 0
  Is event result new = (result ≡ result_of pseudokey_of old event) × (new ≡ world_after pseudokey_of old event)

  is_step : (event : Event) (stepped : Stepped K) → step_of pseudokey_of old event ≡ stepped → (result : Result Outcome StepFault) (new : WorldState K) → result ≡ stepped.0 → new ≡ stepped.1 → Is event result new
  is_step event stepped is result new same left = (same ∙ ap (λ (s : Stepped K). s.0) (sym is), left ∙ ap (λ (s : Stepped K). s.1) (sym is))

  -- ---- requests

  begun_is : IsSoundWorld pseudokey_of old → DistancesAreComputed → (name client copy : ℕ) (call : Call) (ward page : ℕ) (new : WorldState K) → HasBegun pseudokey_of old name client copy call ward page new
      → Is (Begin name client copy call) (Ok (Begun ward page)) new
  unfolding step_of
  begun_is sound distances name client copy call ward page new has =
      let request = request_from pseudokey_of old client call has.table in
      let computed : step_of pseudokey_of old (Begin name client copy call) ≡ begun old name request = rw (has.free, has.there) refl in
      let k = pseudokey_in pseudokey_of old call in
      let pages_are : pages_in old ward ≡ has.before.pages = ap (λ (found : Option (WardState K)). option_map_or (λ (w : WardState K). w.pages) found []) has.found in
      let linked = (sound.wards ward has.before has.found).sound.legal.legal.legal.linked in
      let far : has.distance ≡ distance_of (pages_in old ward) page k = distances (own_prefix has.before) has.before.pages page k has.distance linked has.is_distance ∙ sym (ap (λ pages. distance_of pages page k) pages_are) in
      let Far : ℕ → WorldState K = λ d. record old { in_flight = old.in_flight ++ (name, request_begun client call k ward page d (length (changes_in old ward))) ∷ [] } in
      let Left : ℕ → ℕ → WorldState K = λ w p. record old { in_flight = old.in_flight ++ (name, request_at old client call k w p) ∷ [] } in
      is_step (Begin name client copy call) (begun old name request) computed (Ok (Begun ward page)) new
      (ap (λ w. Ok (Begun w page)) has.ward_is ∙ ap (λ p. Ok (Begun request.ward p)) has.page_is)
      (has.after ∙ ap Far far ∙ ap (λ w. Left w page) has.ward_is ∙ ap (Left request.ward) has.page_is)

  left_is : (ward : WardState K) (request : Request) (hop : Hop) (left : WardState K) → LeavesAfter pseudokey_of ward request.page request.client request.call hop left → left ≡ ward_after_hop pseudokey_of ward request hop
  left_is ward request (Done reply) left leaves =
      leaves.others ∙ ap (λ pages. record ward { pages = pages; journal = left.journal }) leaves.pages ∙ ap (λ journal. record (ward_after_hop pseudokey_of ward request (Done reply)) { journal = journal }) leaves.journal
  left_is ward request (Moved next) left leaves = leaves
  left_is ward request MustSplit left leaves = leaves
  left_is ward request Stray left leaves = leaves

  hopped_is : HopsAreComputed → (name ward : ℕ) (hop : Progress) (new : WorldState K) → HasHopped pseudokey_of old name ward hop new → Is (HopOn name) (Ok (hop_outcome ward hop)) new
  unfolding step_of
  hopped_is hops name ward hop new has =
      let found : slice_get old.wards has.request.ward ≡ Some has.before = subst (λ n. slice_get old.wards n ≡ Some has.before) has.ward_is has.found in
      let hop_is = hops old.cap (pseudokey_of old.keyer) has.before.pages has.request.page has.request.call (hop_in hop) has.outcome in
      let computed : step_of pseudokey_of old (HopOn name) ≡ hopped pseudokey_of old name has.request has.before (hop_in hop) =
      (let here : step_of pseudokey_of old (HopOn name) ≡ hopped pseudokey_of old name has.request has.before (hop_of old.cap (pseudokey_of old.keyer) has.before.pages has.request.page has.request.call) = rw (has.there, found) refl in here)
      ∙ ap (hopped pseudokey_of old name has.request has.before) (sym hop_is) in
      let Left : ℕ → WardState K → WorldState K = λ n left. record old { wards = slice_set old.wards n left; in_flight = requests_after name (hop_in hop) old.in_flight } in
      is_step (HopOn name) (hopped pseudokey_of old name has.request has.before (hop_in hop)) computed (Ok (hop_outcome ward hop)) new
      (ap (λ n. Ok (hop_outcome n hop)) has.ward_is ∙ ap (λ h. Ok (hop_outcome has.request.ward h)) has.counted)
      (has.after ∙ ap (λ n. Left n has.left) has.ward_is ∙ ap (Left has.request.ward) (left_is has.before has.request (hop_in hop) has.left has.leaves))

  -- ---- copies

  module _ (sound : IsSoundWorld pseudokey_of old) where
    -- notices of a ward have different indexes
    one_of_index : (notices : List Notice) (ward : ℕ) (start : TableMap) → AreNumbered ward start notices → (one other : ℕ) (notice twin : Notice) → slice_get notices one ≡ Some notice → slice_get notices other ≡ Some twin
        → twin.index ≡ notice.index → twin ≡ notice
    one_of_index notices ward start numbers one other notice twin is too same =
        let place : other ≡ one = omega (arith, (numbers one notice is).1, (numbers other twin too).1) in
        let both : Some twin ≡ Some notice = sym too ∙ ap (slice_get notices) place ∙ is in
        cc

    teller_of : (ward : ℕ) (notice : Notice) (found : Option (WardState K)) → slice_get old.wards ward ≡ found → Contains (option_map_or (λ ward. ward.notices) found []) notice
        → (teller : WardState K) × (slice_get old.wards ward ≡ Some teller) × Contains teller.notices notice
    teller_of ward notice None is issued = absurd (omega (arith, issued.1))
    teller_of ward notice (Some teller) is issued = (teller, is, issued)

    taken_is : (copy ward index : ℕ) (notice : Notice) (new : WorldState K) → HasTaken old copy ward index notice new → Is (Deliver copy ward index) (Ok (Taken notice)) new
    unfolding step_of
    taken_is copy ward index notice new has =
        let teller = teller_of ward notice (slice_get old.wards ward) refl has.issued in
        let place = place_of teller.0.notices notice teller.2 in
        let numbers = (sound.wards ward teller.0 teller.1).sound.numbered in
        let found : find (λ notice. nat_eq notice.index index) teller.0.notices ≡ Some notice =
        find_one (λ notice. nat_eq notice.index index) teller.0.notices place.0 notice place.1 (eq-eqb notice.index index has.index_is) (λ other twin there passes.
        one_of_index teller.0.notices teller.0.number teller.0.start numbers place.0 other notice twin place.1 there (eqb-true twin.index index passes ∙ sym has.index_is)) in
        let computed : step_of pseudokey_of old (Deliver copy ward index) ≡ (Ok (Taken notice), with_copy old copy (table_with has.table notice)) = rw (has.there, teller.1, found) refl in
        is_step (Deliver copy ward index) _ computed (Ok (Taken notice)) new refl has.after

  sent_is : (copy number : ℕ) (new : WorldState K) → HasSent old copy number new → Is (Send copy) (Ok (Sent number)) new
  unfolding step_of
  sent_is copy number new has =
      let computed : step_of pseudokey_of old (Send copy) ≡ (Ok (Sent (suc (length old.sent))), record old { sent = old.sent ++ has.table ∷ [] }) = rw has.there refl in
      is_step (Send copy) _ computed (Ok (Sent number)) new (ap (λ n. Ok (Sent n)) has.number_is) has.after

  joined_is : (copy table : ℕ) (new : WorldState K) → HasJoined old copy table new → Is (Combine copy table) (Ok Joined) new
  unfolding step_of
  joined_is copy table new has =
      let computed : step_of pseudokey_of old (Combine copy table) ≡ (Ok Joined, with_copy old copy (table_join has.own has.other)) = rw (has.there, has.sent) refl in
      is_step (Combine copy table) _ computed (Ok Joined) new refl has.after

  restarted_is : (copy : ℕ) (new : WorldState K) → HasRestarted old copy new → Is (Restart copy) (Ok Restarted) new
  unfolding step_of
  restarted_is copy new has =
      let computed : step_of pseudokey_of old (Restart copy) ≡ (Ok Restarted, with_copy old copy old.start) = rw has.there refl in
      is_step (Restart copy) _ computed (Ok Restarted) new refl has.after

  -- ---- splits and merges

  pub split_computed : (ward page : ℕ) (before : WardState K) → slice_get old.wards ward ≡ Some before → step_of pseudokey_of old (Split ward page) ≡ after_change old ward (split_of before page) (ward_after_split before page)
  unfolding step_of
  split_computed ward page before found = rw found refl

  pub merge_computed : (ward page : ℕ) (before : WardState K) → slice_get old.wards ward ≡ Some before → step_of pseudokey_of old (Merge ward page) ≡ after_change old ward (merge_of before page) (ward_after_merge before page)
  unfolding step_of
  merge_computed ward page before found = rw found refl

  -- a change that comes to what it is computed to be
  changed_is : (event : Event) (ward : ℕ) (notice : Notice) (left made : WardState K) (new : WorldState K) (result : Result Notice WardFault) → step_of pseudokey_of old event ≡ after_change old ward result made → (result ≡ Ok notice) × (left ≡ made)
      → new ≡ record old { wards = slice_set old.wards ward left } → Is event (Ok (Changed notice)) new
  changed_is event ward notice left made new result computed is after =
      is_step event (after_change old ward (Ok notice) left) (computed ∙ ap (λ result. after_change old ward result made) is.0 ∙ ap (after_change old ward (Ok notice)) (sym is.1)) (Ok (Changed notice)) new refl after

  refusal_is : (event : Event) (ward : ℕ) (made : WardState K) (fault : WardFault) (result : Result Notice WardFault) → step_of pseudokey_of old event ≡ after_change old ward result made → IsStoreFault fault ⊎ (result ≡ Err fault) → fault ≢ Page
      → (Ward fault ≡ Ward Memory) ⊎ (step_of pseudokey_of old event ≡ (Err (Ward fault), old))
  refusal_is event ward made fault result computed (inl want) other = inl (ap Ward (memory_of fault want other))
  refusal_is event ward made fault result computed (inr is) other = inr (computed ∙ ap (λ result. after_change old ward result made) is)

  module _ (sound : IsSoundWorld pseudokey_of old) (splits : SplitsAreComputed pseudokey_of) (merges : MergesAreComputed pseudokey_of) where
    split_is : (ward page : ℕ) (notice : Notice) (new : WorldState K) → HasChanged IsSplitStep old ward page notice new → Is (Split ward page) (Ok (Changed notice)) new
    split_is ward page notice new has =
        let is = (splits has.before page (sound.wards ward has.before has.found).sound).split notice has.left has.change in
        changed_is (Split ward page) ward notice has.left (ward_after_split has.before page) new (split_of has.before page) (split_computed ward page has.before has.found) is has.after

    merge_is : (ward page : ℕ) (notice : Notice) (new : WorldState K) → HasVersionOfWord (Ok (Changed notice)) → HasChanged IsMergeStep old ward page notice new → Is (Merge ward page) (Ok (Changed notice)) new
    merge_is ward page notice new fits has =
        let is = (merges has.before page (sound.wards ward has.before has.found).sound).merged notice has.left has.change fits in
        changed_is (Merge ward page) ward notice has.left (ward_after_merge has.before page) new (merge_of has.before page) (merge_computed ward page has.before has.found) is has.after

    -- ---- refusals

    abbrev IsRefusal : Event → StepFault → Type 0
    IsRefusal event fault = (fault ≡ Ward Memory) ⊎ (step_of pseudokey_of old event ≡ (Err fault, old))

    split_refusal : (ward page : ℕ) (fault : WardFault) (before : WardState K) → slice_get old.wards ward ≡ Some before → SplitRefused before.cap before.pages page fault → fault ≢ Page → IsRefusal (Split ward page) (Ward fault)
    split_refusal ward page fault before found is other =
        refusal_is (Split ward page) ward (ward_after_split before page) fault (split_of before page) (split_computed ward page before found) ((splits before page (sound.wards ward before found).sound).refused fault is) other

    merge_refusal : (ward page : ℕ) (fault : WardFault) (before : WardState K) → slice_get old.wards ward ≡ Some before → MergeRefused before page fault → fault ≢ Page → IsRefusal (Merge ward page) (Ward fault)
    merge_refusal ward page fault before found is other =
        refusal_is (Merge ward page) ward (ward_after_merge before page) fault (merge_of before page) (merge_computed ward page before found) ((merges before page (sound.wards ward before found).sound).refused fault is) other

    no_notice : (copy ward index : ℕ) → IsRefused old (Deliver copy ward index) NoNotice → step_of pseudokey_of old (Deliver copy ward index) ≡ (Err NoNotice, old)
    unfolding step_of
    no_notice copy ward index is =
        let own = some_there (numbered old.copies copy) is.0 in
        let teller = some_there (slice_get old.wards ward) is.1 in
        let issued : issued_in old ward ≡ teller.0.notices = ap (λ found. option_map_or (λ ward. ward.notices) found []) teller.1 in
        let none : find (λ notice. nat_eq notice.index index) teller.0.notices ≡ None =
        find_none (λ notice. nat_eq notice.index index) teller.0.notices (λ place notice there passes.
        let contained : Contains teller.0.notices notice = (place, slice_get_within teller.0.notices place notice there, get_or_from_slice_get teller.0.notices place notice notice there) in
        is.2 notice (subst (λ notices. Contains notices notice) (sym issued) contained) (eqb-true notice.index index passes)) in
        rw (own.1, teller.1, none) refl

    no_ward : (copy ward index : ℕ) → IsRefused old (Deliver copy ward index) NoWard → step_of pseudokey_of old (Deliver copy ward index) ≡ (Err NoWard, old)
    unfolding step_of
    no_ward copy ward index is =
        let own = some_there (numbered old.copies copy) is.0 in
        rw (own.1, is.1) refl

    no_table : (copy table : ℕ) → IsRefused old (Combine copy table) NoTable → step_of pseudokey_of old (Combine copy table) ≡ (Err NoTable, old)
    unfolding step_of
    no_table copy table is =
        let own = some_there (numbered old.copies copy) is.0 in
        rw (own.1, is.1) refl

    refused_is : (event : Event) (fault : StepFault) → IsRefused old event fault → IsRefusal event fault
    unfolding step_of
    refused_is (Begin name client copy call) NameTaken is = inr (rw is refl)
    refused_is (Begin name client copy call) NoCopy is = inr (rw (is.0, is.1) refl)
    refused_is (HopOn name) NoRequest is = inr (rw is refl)
    refused_is (Split ward page) NoWard is = inr (rw is refl)
    refused_is (Split ward page) (Ward fault) is = split_refusal ward page fault is.0 is.1 is.2 is.3
    refused_is (Merge ward page) NoWard is = inr (rw is refl)
    refused_is (Merge ward page) (Ward fault) is = merge_refusal ward page fault is.0 is.1 is.2 is.3
    refused_is (Deliver copy ward index) NoCopy is = inr (rw is refl)
    refused_is (Deliver copy ward index) NoWard is = inr (no_ward copy ward index is)
    refused_is (Deliver copy ward index) NoNotice is = inr (no_notice copy ward index is)
    refused_is (Send copy) NoCopy is = inr (rw is refl)
    refused_is (Combine copy table) NoCopy is = inr (rw is refl)
    refused_is (Combine copy table) NoTable is = inr (no_table copy table is)
    refused_is (Restart copy) NoCopy is = inr (rw is refl)
    refused_is event fault is = absurd is

    -- ---- every step

    effect_is : HopsAreComputed → DistancesAreComputed → (event : Event) (outcome : Outcome) (new : WorldState K) → HasEffect pseudokey_of old event outcome new → HasVersionOfWord (Ok outcome) → Is event (Ok outcome) new
    effect_is hops distances = on_effect pseudokey_of old (λ event outcome new. HasVersionOfWord (Ok outcome) → Is event (Ok outcome) new) record {
      begun = λ name client copy call ward page new has fits. begun_is sound distances name client copy call ward page new has;
      hopped = λ name ward hop new has fits. hopped_is hops name ward hop new has;
      split = λ ward page notice new has fits. split_is ward page notice new has;
      merge = λ ward page notice new has fits. merge_is ward page notice new fits has;
      taken = λ copy ward index notice new has fits. taken_is sound copy ward index notice new has;
      sent = λ copy number new has fits. sent_is copy number new has;
      joined = λ copy table new has fits. joined_is copy table new has;
      restarted = λ copy new has fits. restarted_is copy new has;
    }

    refusal_computed : (event : Event) (fault : StepFault) (new : WorldState K) → new ≡ old → IsRefusal event fault → IsComputed pseudokey_of old event (Err fault) new
    refusal_computed event fault new same (inl want) = inl (ap Err want, same)
    refusal_computed event fault new same (inr is) = inr (inr (is_step event (Err fault, old) is (Err fault) new refl same))

    pub step_computed : HopsAreComputed → DistancesAreComputed → (event : Event) (result : Result Outcome StepFault) (new : WorldState K) → HasVersionOfWord result → Step pseudokey_of old event result new → IsComputed pseudokey_of old event result new
    step_computed hops distances event (Ok outcome) new fits step = inr (inr (effect_is hops distances event outcome new step fits))
    step_computed hops distances event (Err fault) new fits (inl (same, inl is)) = refusal_computed event fault new same (refused_is event fault is)
    step_computed hops distances event (Err fault) new fits (inl (same, inr memory)) = refusal_computed event fault new same (inl memory)
    step_computed hops distances event (Err fault) new fits (inr (page, number, reaches, counted)) = inr (inl (ap Err page, number, reaches, counted))
