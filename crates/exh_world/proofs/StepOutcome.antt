-- What a step is computed to be is what the relation gives.
use Rattle.std.proofs.Common.{◌≡◌, ℕ, zero, suc, Bool, true, false, List, [], ◌∷◌, ◌++◌, length, find, slice_get, Option, None, Some, Result, Ok, Err, inl, refl, sym, ap, ◌∙◌, subst}
use Rattle.std.specs.Prelude.{◌≢◌, Contains, nat_eq, is_some, slice_set}
use Rattle.std.specs.Option.{option_map_or}
use Rattle.std.proofs.lemmas.Bool.{eq-eqb, eqb-true, false≢true}
use Rattle.std.proofs.lemmas.Option.{slice_get_within, get_or_from_slice_get}
use Rattle.exh_prefix.specs.Prefix.{Begins}
use Rattle.exh_notice.specs.declared.notice.Notice.{Notice}
use Rattle.exh_table.specs.Table.{TableMap, table_with}
use Rattle.exh_table.specs.TableOrder.{table_join}
use Rattle.exh_table.specs.TableWalk.{walk_of}
use Rattle.exh_page.specs.PageLaws.{AreOfWords}
use Rattle.exh_prefix.specs.Leading.{ward_of, ward_prefix}
use Rattle.exh_legal.specs.Pages.{IsLegal}
use Rattle.exh_calls.specs.Call.{key_of}
use Rattle.exh_ward.specs.HopTable.{HopOf, hop_of}
use Rattle.exh_ward.specs.WardLaws.{HopsHaveOutcomes, AnswersKeepLegal, SplitsHaveOutcomes, MergesHaveOutcomes, IsSplitOutcome, IsMergeOutcome}
use Rattle.exh_ward.specs.MergeFunction.{merge_of, ward_after_merge}
use Rattle.exh_ward.specs.SplitFunction.{split_of, ward_after_split}
use Rattle.exh_ward.specs.WardState.{WardState, LeavesAfter, own_prefix}
use Rattle.exh_calls.specs.declared.call.Call.{Call}
use Rattle.exh_ward.specs.declared.hop.Hop.{Hop}
use Rattle.exh_ward.specs.declared.hop.Hop.TheVariants.{Done, Moved, MustSplit, Stray}
use Rattle.exh_ward.specs.declared.ward_fault.WardFault.{WardFault}
use Rattle.exh_ward.specs.declared.ward_fault.WardFault.TheVariants.{Page}
use Rattle.exh_ward.specs.Distance.{IsDistance}
use Rattle.exh_walk.specs.DistanceFunction.{distance_of}
use Rattle.exh_walk.specs.RouteLaws.{CanGoOn, DistancesAreComputed, GetsGoHome}
use Rattle.exh_world.specs.InFlight.{request_named, requests_after}
use Rattle.exh_world.specs.Sound.{IsWardOf, IsOnTheWay, IsSoundWorld}
use Rattle.exh_world.specs.RequestProgress.{bound_in, progress_of}
use Rattle.exh_world.specs.Step.{pseudokey_in, HasHopped, Step}
use Rattle.exh_world.specs.StepEffectLemmas.{hopped_step}
use Rattle.exh_world.specs.StepFunction.{Stepped, pages_in, request_from, begun, ward_after_hop, hopped, after_change, with_copy, step_of, result_of, world_after}
use Rattle.exh_world.specs.World.{WorldState, numbered, issued_in}
use Rattle.exh_walk.specs.declared.event.Event.{Event}
use Rattle.exh_walk.specs.declared.event.Event.TheVariants.{Begin, Hop as HopOn, Split, Merge, Deliver, Send, Combine, Restart}
use Rattle.exh_walk.specs.declared.outcome.Outcome.TheVariants.{Taken, Sent, Joined, Restarted}
use Rattle.exh_world.specs.declared.request.Request.{Request}
use Rattle.exh_walk.specs.declared.step_fault.StepFault.TheVariants.{NameTaken, NoCopy, NoRequest, NoWard, NoNotice, NoTable}
use Rattle.exh_world.specs.RequestLemmas.{all_named}
use Rattle.exh_world.proofs.BegunSound.{ward_begins, ward_there, walk_ends_below}
use Rattle.exh_world.proofs.HopSteps.{hop_of_progress}
use Rattle.exh_world.proofs.PagesReached.{split_reached, merge_reached}
use Rattle.exh_world.proofs.StepFunction.{place_of, split_computed, merge_computed}

-- ---- what a search finds

module _ (test : Notice → Bool) where
  abbrev IsFound : List Notice → Option Notice → Type 0
  IsFound notices (Some notice) = (place : ℕ) × (slice_get notices place ≡ Some notice) × (test notice ≡ true)
  IsFound notices None = (place : ℕ) (notice : Notice) → slice_get notices place ≡ Some notice → test notice ≡ true → ⊥

  found_later : (first : Notice) (notices : List Notice) (found : Option Notice) → test first ≡ false → IsFound notices found → IsFound (first ∷ notices) found
  found_later first notices (Some notice) fails is = (suc is.0, is.1, is.2)
  found_later first notices None fails none = none_later where
    none_later : (place : ℕ) (notice : Notice) → slice_get (first ∷ notices) place ≡ Some notice → test notice ≡ true → ⊥
    none_later zero notice is passes = let same : first ≡ notice = cc in false≢true (sym fails ∙ ap test same ∙ passes)
    none_later (suc place) notice is passes = none place notice is passes

  is_found : (notices : List Notice) → IsFound notices (find test notices)
  is_found [] = λ place notice is passes. cc
  is_found (first ∷ notices) =
      elim (test first) as (λ b. test first ≡ b → IsFound (first ∷ notices) (find test (first ∷ notices))) [
        | true ↦ λ passes. rw passes (0, refl, passes)
        | false ↦ λ fails. rw fails (found_later first notices (find test notices) fails (is_found notices))
      ] refl

module _ {K : Type 0} (pseudokey_of : K → List ℕ → ℕ) (old : WorldState K) where
  abbrev Comes : Event → Type 0
  Comes event = Step pseudokey_of old event (result_of pseudokey_of old event) (world_after pseudokey_of old event)

  comes : (event : Event) (stepped : Stepped K) → step_of pseudokey_of old event ≡ stepped → Step pseudokey_of old event stepped.0 stepped.1 → Comes event
  comes event stepped is step = let P : Stepped K → Type 0 = λ stepped. Step pseudokey_of old event stepped.0 stepped.1 in subst P (sym is) step

  -- ---- copies

  send_comes : (copy : ℕ) (found : Option TableMap) → numbered old.copies copy ≡ found → Comes (Send copy)
  unfolding step_of
  send_comes copy None is = comes (Send copy) (Err NoCopy, old) (rw is refl) (inl (refl, inl is))
  send_comes copy (Some table) is =
      comes (Send copy) (Ok (Sent (suc (length old.sent))), record old { sent = old.sent ++ table ∷ [] }) (rw is refl) (record { table = table; there = is; number_is = refl; after = refl })

  restart_comes : (copy : ℕ) (found : Option TableMap) → numbered old.copies copy ≡ found → Comes (Restart copy)
  unfolding step_of
  restart_comes copy None is = comes (Restart copy) (Err NoCopy, old) (rw is refl) (inl (refl, inl is))
  restart_comes copy (Some own) is = comes (Restart copy) (Ok Restarted, with_copy old copy old.start) (rw is refl) (record { own = own; there = is; after = refl })

  joined_by : (copy table : ℕ) (own : TableMap) → numbered old.copies copy ≡ Some own → (found : Option TableMap) → numbered old.sent table ≡ found → Comes (Combine copy table)
  unfolding step_of
  joined_by copy table own there None is = comes (Combine copy table) (Err NoTable, old) (rw (there, is) refl) (inl (refl, inl (ap is_some there, is)))
  joined_by copy table own there (Some other) is =
      comes (Combine copy table) (Ok Joined, with_copy old copy (table_join own other)) (rw (there, is) refl) (record { own = own; there = there; other = other; sent = is; after = refl })

  combine_comes : (copy table : ℕ) (found : Option TableMap) → numbered old.copies copy ≡ found → Comes (Combine copy table)
  unfolding step_of
  combine_comes copy table None is = comes (Combine copy table) (Err NoCopy, old) (rw is refl) (inl (refl, inl is))
  combine_comes copy table (Some own) is = joined_by copy table own is (numbered old.sent table) refl

  module _ (copy ward index : ℕ) where
    abbrev has_index : Notice → Bool
    has_index notice = nat_eq notice.index index

    module _ (own : TableMap) (there : numbered old.copies copy ≡ Some own) where
      module _ (teller : WardState K) (found_teller : slice_get old.wards ward ≡ Some teller) where
        issued : issued_in old ward ≡ teller.notices
        issued = ap (λ found. option_map_or (λ ward. ward.notices) found []) found_teller

        told_by : (found : Option Notice) → find has_index teller.notices ≡ found → IsFound has_index teller.notices found → Comes (Deliver copy ward index)
        unfolding step_of
        told_by None is none =
            comes (Deliver copy ward index) (Err NoNotice, old) (rw (there, found_teller, is) refl) (inl (
              refl,
              inl (
                ap is_some there,
                ap is_some found_teller,
                λ notice contains same.
                    let place = place_of teller.notices notice (subst (λ notices. Contains notices notice) issued contains) in
                    none place.0 notice place.1 (eq-eqb notice.index index same),
              ),
            ))
        told_by (Some notice) is found =
            let contained : Contains teller.notices notice = (found.0, slice_get_within teller.notices found.0 notice found.1, get_or_from_slice_get teller.notices found.0 notice notice found.1) in
            comes (Deliver copy ward index) (Ok (Taken notice), with_copy old copy (table_with own notice)) (rw (there, found_teller, is) refl) (record {
              table = own;
              there = there;
              issued = subst (λ notices. Contains notices notice) (sym issued) contained;
              index_is = eqb-true notice.index index found.2;
              after = refl;
            })

      by_teller : (found : Option (WardState K)) → slice_get old.wards ward ≡ found → Comes (Deliver copy ward index)
      unfolding step_of
      by_teller None is = comes (Deliver copy ward index) (Err NoWard, old) (rw (there, is) refl) (inl (refl, inl (ap is_some there, is)))
      by_teller (Some teller) is = told_by teller is (find has_index teller.notices) refl (is_found has_index teller.notices)

    deliver_comes : (found : Option TableMap) → numbered old.copies copy ≡ found → Comes (Deliver copy ward index)
    unfolding step_of
    deliver_comes None is = comes (Deliver copy ward index) (Err NoCopy, old) (rw is refl) (inl (refl, inl is))
    deliver_comes (Some own) is = by_teller own is (slice_get old.wards ward) refl

  module _ (sound : IsSoundWorld pseudokey_of old) where
    words_of : (number : ℕ) (ward : WardState K) → IsWardOf pseudokey_of old number ward → AreOfWords (pseudokey_of ward.keyer)
    words_of number ward own = subst (λ (keyer : K). AreOfWords (pseudokey_of keyer)) (sym own.keyer) sound.words

    -- ---- begins

    module _ (distances : DistancesAreComputed) (homes : GetsGoHome) (name client copy : ℕ) (call : Call) where
      abbrev k : ℕ
      k = pseudokey_in pseudokey_of old call

      abbrev at_ward : ℕ
      at_ward = ward_of old.ward_bits k

      -- the page that a walk names has the distance that the function gives
      far_from : (table : TableMap) → numbered old.copies copy ≡ Some table → (ward : WardState K) → slice_get old.wards at_ward ≡ Some ward
          → IsDistance ward.pages (walk_of table old.ward_bits k).page k (distance_of (pages_in old at_ward) (walk_of table old.ward_bits k).page k)
      far_from table there ward found =
          let page = (walk_of table old.ward_bits k).page in
          let is_own = sound.wards at_ward ward found in
          let prefix : own_prefix ward ≡ ward_prefix old.ward_bits at_ward = ap (λ bits. ward_prefix bits ward.number) is_own.bits ∙ ap (ward_prefix old.ward_bits) is_own.number_is in
          let linked = is_own.sound.legal.legal.legal.linked in
          let on : CanGoOn (own_prefix ward) ward.pages page k = record {
            linked = linked;
            word = sound.words (key_of call);
            covered = subst (λ p. Begins p k) (sym prefix) (ward_begins pseudokey_of old sound k);
            below = walk_ends_below pseudokey_of old sound table (sound.copies copy table there) k (sound.words (key_of call)) ward found;
          } in
          let home = (homes old.cap (pseudokey_of old.keyer) (own_prefix ward) ward.pages page (key_of call) on).0 in
          let pages_are : pages_in old at_ward ≡ ward.pages = ap (λ (found : Option (WardState K)). option_map_or (λ (w : WardState K). w.pages) found []) found in
          subst (IsDistance ward.pages page k) (distances (own_prefix ward) ward.pages page k _ linked home.distance ∙ sym (ap (λ pages. distance_of pages page k) pages_are)) home.distance

      begun_by : request_named name old.in_flight ≡ None → (found : Option TableMap) → numbered old.copies copy ≡ found → Comes (Begin name client copy call)
      unfolding step_of
      begun_by free None is = comes (Begin name client copy call) (Err NoCopy, old) (rw (free, is) refl) (inl (refl, inl (free, is)))
      begun_by free (Some table) is =
          let there = ward_there pseudokey_of old sound k in
          comes (Begin name client copy call) (begun old name (request_from pseudokey_of old client call table)) (rw (free, is) refl) (record {
            free = free;
            table = table;
            there = is;
            ward_is = refl;
            page_is = refl;
            before = there.0;
            found = there.1;
            distance = distance_of (pages_in old at_ward) (walk_of table old.ward_bits k).page k;
            is_distance = far_from table is there.0 there.1;
            after = refl;
          })

      begin_comes : (found : Option Request) → request_named name old.in_flight ≡ found → Comes (Begin name client copy call)
      unfolding step_of
      begin_comes None is = begun_by is (numbered old.copies copy) refl
      begin_comes (Some request) is = comes (Begin name client copy call) (Err NameTaken, old) (rw is refl) (inl (refl, inl (ap is_some is)))

    -- ---- hops

    module _ (outcomes : HopsHaveOutcomes) (answers : AnswersKeepLegal) (name : ℕ) where
      has_hopped : (request : Request) → request_named name old.in_flight ≡ Some request → (before : WardState K) → slice_get old.wards request.ward ≡ Some before → (hop : Hop) → HopOf old.cap (pseudokey_of old.keyer) before.pages request.page request.call hop
          → (left : WardState K) → LeavesAfter pseudokey_of before request.page request.client request.call hop left
          → HasHopped pseudokey_of old name request.ward (progress_of old request hop) (record old { wards = slice_set old.wards request.ward left; in_flight = requests_after name hop old.in_flight })
      has_hopped request named before found hop outcome left leaves =
          let same = hop_of_progress hop request.moves (bound_in old request) in
          record {
            request = request;
            there = named;
            ward_is = refl;
            before = before;
            found = found;
            outcome = subst (HopOf old.cap (pseudokey_of old.keyer) before.pages request.page request.call) (sym same) outcome;
            counted = sym (ap (progress_of old request) same);
            left = left;
            leaves = subst (λ h. LeavesAfter pseudokey_of before request.page request.client request.call h left) (sym same) leaves;
            after = ap (λ h. record old { wards = slice_set old.wards request.ward left; in_flight = requests_after name h old.in_flight }) (sym same);
          }

      module _ (request : Request) (named : request_named name old.in_flight ≡ Some request) where
        way : IsOnTheWay pseudokey_of old request
        way = all_named (IsOnTheWay pseudokey_of old) name old.in_flight request sound.requests named

        abbrev before : WardState K
        before = way.ward

        own : IsWardOf pseudokey_of old request.ward before
        own = sound.wards request.ward before way.there

        abbrev hop : Hop
        hop = hop_of old.cap (pseudokey_of old.keyer) before.pages request.page request.call

        legal : IsLegal before.cap (pseudokey_of before.keyer) (own_prefix before) before.pages
        legal = own.sound.legal.legal.legal

        covered : Begins (own_prefix before) (pseudokey_of old.keyer (key_of request.call))
        covered =
            let prefix : own_prefix before ≡ ward_prefix old.ward_bits request.ward = ap (λ bits. ward_prefix bits before.number) own.bits ∙ ap (ward_prefix old.ward_bits) own.number_is in
            subst (λ p. Begins p (pseudokey_of old.keyer (key_of request.call))) (sym prefix) (subst (Begins (ward_prefix old.ward_bits request.ward)) way.pseudokey_is way.begins)

        outcome : HopOf old.cap (pseudokey_of old.keyer) before.pages request.page request.call hop
        outcome =
            outcomes old.cap (pseudokey_of old.keyer) (own_prefix before) before.pages request.page request.call
            (subst (λ (keyer : K). IsLegal old.cap (pseudokey_of keyer) (own_prefix before) before.pages) own.keyer (subst (λ cap. IsLegal cap (pseudokey_of before.keyer) (own_prefix before) before.pages) own.cap legal))
            (sound.words (key_of request.call)) covered

        leaves : (hop : Hop) → HopOf before.cap (pseudokey_of before.keyer) before.pages request.page request.call hop
            → LeavesAfter pseudokey_of before request.page request.client request.call hop (ward_after_hop pseudokey_of before request hop)
        leaves (Done reply) is = record {
          pages = refl;
          map = (answers before.cap (pseudokey_of before.keyer) (own_prefix before) before.pages request.page request.call reply (words_of request.ward before own) legal is).map;
          journal = refl;
          others = refl;
        }
        leaves (Moved next) is = refl
        leaves MustSplit is = refl
        leaves Stray is = refl

        hopped_comes : Comes (HopOn name)
        unfolding step_of
        hopped_comes =
            let own_outcome = subst (λ (keyer : K). HopOf before.cap (pseudokey_of keyer) before.pages request.page request.call hop) (sym own.keyer)
            (subst (λ cap. HopOf cap (pseudokey_of old.keyer) before.pages request.page request.call hop) (sym own.cap) outcome) in
            comes (HopOn name) (hopped pseudokey_of old name request before hop) (rw (named, way.there) refl)
            (hopped_step pseudokey_of old name request.ward (progress_of old request hop) (hopped pseudokey_of old name request before hop).1
            (has_hopped request named before way.there hop outcome (ward_after_hop pseudokey_of before request hop) (leaves hop own_outcome)))

      hop_comes : (found : Option Request) → request_named name old.in_flight ≡ found → Comes (HopOn name)
      unfolding step_of
      hop_comes None is = comes (HopOn name) (Err NoRequest, old) (rw is refl) (inl (refl, inl is))
      hop_comes (Some request) is = hopped_comes request is

    -- ---- splits and merges

    module _ (ward page : ℕ) where
      split_by : (before : WardState K) → slice_get old.wards ward ≡ Some before → (result : Result Notice WardFault) (left : WardState K) → result ≢ Err Page → IsSplitOutcome before page result left
          → Step pseudokey_of old (Split ward page) (after_change old ward result left).0 (after_change old ward result left).1
      split_by before found (Ok notice) left other change = record { before = before; found = found; left = left; change = change; after = refl }
      split_by before found (Err fault) left other refusal = inl (refl, inl (before, found, refusal.0, λ same. other (ap Err same)))

      split_comes : SplitsHaveOutcomes pseudokey_of → (found : Option (WardState K)) → slice_get old.wards ward ≡ found → Comes (Split ward page)
      unfolding step_of
      split_comes splits None is = comes (Split ward page) (Err NoWard, old) (rw is refl) (inl (refl, inl is))
      split_comes splits (Some before) is =
          comes (Split ward page) (after_change old ward (split_of before page) (ward_after_split before page)) (split_computed pseudokey_of old ward page before is)
          (split_by before is (split_of before page) (ward_after_split before page) (split_reached before page) (splits before page (sound.wards ward before is).sound))

      merge_by : (before : WardState K) → slice_get old.wards ward ≡ Some before → (result : Result Notice WardFault) (left : WardState K) → result ≢ Err Page → IsMergeOutcome before page result left
          → Step pseudokey_of old (Merge ward page) (after_change old ward result left).0 (after_change old ward result left).1
      merge_by before found (Ok notice) left other change = record { before = before; found = found; left = left; change = change; after = refl }
      merge_by before found (Err fault) left other refusal = inl (refl, inl (before, found, refusal.0, λ same. other (ap Err same)))

      merge_comes : MergesHaveOutcomes pseudokey_of → (found : Option (WardState K)) → slice_get old.wards ward ≡ found → Comes (Merge ward page)
      unfolding step_of
      merge_comes merges None is = comes (Merge ward page) (Err NoWard, old) (rw is refl) (inl (refl, inl is))
      merge_comes merges (Some before) is =
          let own = sound.wards ward before is in
          comes (Merge ward page) (after_change old ward (merge_of before page) (ward_after_merge before page)) (merge_computed pseudokey_of old ward page before is)
          (merge_by before is (merge_of before page) (ward_after_merge before page) (merge_reached before page) (merges before page (words_of ward before own) own.sound))

    -- ---- every step

    pub step_outcome : HopsHaveOutcomes → AnswersKeepLegal → DistancesAreComputed → GetsGoHome → SplitsHaveOutcomes pseudokey_of → MergesHaveOutcomes pseudokey_of → (event : Event) → Comes event
    step_outcome hops answers distances homes splits merges (Begin name client copy call) = begin_comes distances homes name client copy call (request_named name old.in_flight) refl
    step_outcome hops answers distances homes splits merges (HopOn name) = hop_comes hops answers name (request_named name old.in_flight) refl
    step_outcome hops answers distances homes splits merges (Split ward page) = split_comes ward page splits (slice_get old.wards ward) refl
    step_outcome hops answers distances homes splits merges (Merge ward page) = merge_comes ward page merges (slice_get old.wards ward) refl
    step_outcome hops answers distances homes splits merges (Deliver copy ward index) = deliver_comes copy ward index (numbered old.copies copy) refl
    step_outcome hops answers distances homes splits merges (Send copy) = send_comes copy (numbered old.copies copy) refl
    step_outcome hops answers distances homes splits merges (Combine copy table) = combine_comes copy table (numbered old.copies copy) refl
    step_outcome hops answers distances homes splits merges (Restart copy) = restart_comes copy (numbered old.copies copy) refl
