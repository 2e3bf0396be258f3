-- The step as a function comes to the same over a world whose wards count no page fault, and leaves the same but for the counts.
use Rattle.std.proofs.Common.{◌≡◌, ℕ, ◌+◌, ◌-◌, Bool, true, false, List, [], length, map, drop, slice_get, Option, Some, None, Result, Ok, Err, refl, sym, ap, ◌∙◌}
use Rattle.std.specs.Prelude.{find, is_some, nat_eq, slice_set, if◌then◌else◌}
use Rattle.std.specs.Option.{option_map, option_map_or}
use Rattle.std.proofs.lemmas.List.{map-set}
use Rattle.std.proofs.lemmas.Option.{slice_get-map}
use Rattle.exh_notice.specs.declared.notice.Notice.{Notice}
use Rattle.exh_table.specs.Table.{TableMap}
use Rattle.exh_calls.specs.declared.call.Call.{Call}
use Rattle.exh_walk.specs.declared.event.Event.{Event}
use Rattle.exh_walk.specs.declared.event.Event.TheVariants.{Begin, Hop as HopOn, Split, Merge, Deliver, Send, Combine, Restart}
use Rattle.exh_walk.specs.declared.outcome.Outcome.{Outcome}
use Rattle.exh_walk.specs.declared.outcome.Outcome.TheVariants.{Changed}
use Rattle.exh_walk.specs.declared.step_fault.StepFault.{StepFault}
use Rattle.exh_walk.specs.declared.step_fault.StepFault.TheVariants.{NoCopy, NoRequest, NoWard, NoNotice, NoTable}
use Rattle.exh_walk.specs.EventProgress.{progress_with, hop_outcome}
use Rattle.exh_page.specs.declared.page.Page.{Page}
use Rattle.exh_page.specs.declared.page.Page.TheVariants.{Live, Forward}
use Rattle.exh_prefix.specs.Leading.{ward_of}
use Rattle.exh_walk.specs.DistanceFunction.{distance_of}
use Rattle.exh_table.specs.TableWalk.{walk_of}
use Rattle.exh_ward.specs.HopTable.{hop_of}
use Rattle.exh_ward.specs.MergeFunction.{merge_of, merge_of_page, merged, ward_after_merge}
use Rattle.exh_ward.specs.PlacedPages.{ward_after}
use Rattle.exh_ward.specs.SplitFunction.{halved, split_of, split_of_page, ward_after_split}
use Rattle.exh_ward.specs.WardState.{WardState}
use Rattle.exh_ward.specs.declared.hop.Hop.{Hop}
use Rattle.exh_ward.specs.declared.hop.Hop.TheVariants.{Done, Moved, MustSplit, Stray}
use Rattle.exh_ward.specs.declared.ward_fault.WardFault.{WardFault}
use Rattle.exh_world.specs.Alike.{StepFunctionGoesAlike, uncounted}
use Rattle.exh_world.specs.AlikeLemmas.{counting}
use Rattle.exh_world.specs.InFlight.{request_named, requests_after}
use Rattle.exh_world.specs.WorldListLemmas.{altered_has}
use Rattle.exh_world.specs.Step.{pseudokey_in, request_begun}
use Rattle.exh_world.specs.StepFunction.{Stepped, after_change, begun, hopped, or_refused, pages_in, request_from, step_of, ward_after_hop}
use Rattle.exh_world.specs.World.{WorldState, changes_in, numbered}
use Rattle.exh_world.specs.declared.request.Request.{Request}

module _ {K : Type 0} where
  abbrev bare : WardState K → WardState K
  bare = counting 0

  -- what a step comes to, its world's wards counting no page fault
  abbrev told : Stepped K → Stepped K
  told stepped = (stepped.0, uncounted stepped.1)

  -- ---- what is found

  module _ (world : WorldState K) (fault : StepFault) where
    found_alike : {A : Type 0} (found : Option A) (one other : A → Stepped K) → ((x : A) → other x ≡ told (one x)) → or_refused (uncounted world) fault found other ≡ told (or_refused world fault found one)
    found_alike None one other same = refl
    found_alike (Some x) one other same = same x

    bare_found : (found : Option (WardState K)) (one other : WardState K → Stepped K) → ((ward : WardState K) → other (bare ward) ≡ told (one ward)) → or_refused (uncounted world) fault (option_map bare found) other ≡ told (or_refused world fault found one)
    bare_found None one other same = refl
    bare_found (Some ward) one other same = same ward

    ward_alike : (number : ℕ) (one other : WardState K → Stepped K) → ((ward : WardState K) → other (bare ward) ≡ told (one ward))
        → or_refused (uncounted world) fault (slice_get (map bare world.wards) number) other ≡ told (or_refused world fault (slice_get world.wards number) one)
    ward_alike number one other same = ap (λ found. or_refused (uncounted world) fault found other) (slice_get-map bare world.wards number) ∙ bare_found (slice_get world.wards number) one other same

  if_alike : (test : Bool) (one other here there : Stepped K) → one ≡ told here → other ≡ told there → (if test then one else other) ≡ told (if test then here else there)
  if_alike true one other here there first second = first
  if_alike false one other here there first second = second

  -- ---- what a world has of a ward

  pages_same : (world : WorldState K) (number : ℕ) → pages_in (uncounted world) number ≡ pages_in world number
  pages_same world number = altered_has bare (λ (ward : WardState K). ward.pages) (λ ward. refl) [] world.wards number

  changes_same : (world : WorldState K) (number : ℕ) → changes_in (uncounted world) number ≡ changes_in world number
  changes_same world number =
      ap (λ (issued : List Notice). option_map_or (λ noticed. drop noticed issued) (slice_get world.noticed number) []) (altered_has bare (λ (ward : WardState K). ward.notices) (λ ward. refl) [] world.wards number)

  -- ---- splits and merges

  split_page : (ward : WardState K) (page : Page) → split_of_page (bare ward) page ≡ split_of_page ward page
  split_page ward (Forward low target) = refl
  split_page ward (Live prefix link records) = refl

  split_found : (ward : WardState K) (found : Option Page) (none : Result Notice WardFault) → option_map_or (split_of_page (bare ward)) found none ≡ option_map_or (split_of_page ward) found none
  split_found ward None none = refl
  split_found ward (Some page) none = split_page ward page

  split_same : (ward : WardState K) (at : ℕ) → split_of (bare ward) at ≡ split_of ward at
  unfolding split_of
  split_same ward at = split_found ward (slice_get ward.pages at) _

  merge_page : (ward : WardState K) (page : Page) → merge_of_page (bare ward) page ≡ merge_of_page ward page
  merge_page ward (Forward low target) = refl
  merge_page ward (Live prefix link records) = refl

  merge_found : (ward : WardState K) (found : Option Page) (none : Result Notice WardFault) → option_map_or (merge_of_page (bare ward)) found none ≡ option_map_or (merge_of_page ward) found none
  merge_found ward None none = refl
  merge_found ward (Some page) none = merge_page ward page

  merge_same : (ward : WardState K) (at : ℕ) → merge_of (bare ward) at ≡ merge_of ward at
  unfolding merge_of
  merge_same ward at = merge_found ward (slice_get ward.pages at) _

  after_bare : (ward : WardState K) (result : Result Notice WardFault) (pages : List Page) → ward_after (bare ward) result pages ≡ bare (ward_after ward result pages)
  after_bare ward (Ok notice) pages = refl
  after_bare ward (Err fault) pages = refl

  split_left : (ward : WardState K) (at : ℕ) → ward_after_split (bare ward) at ≡ bare (ward_after_split ward at)
  unfolding ward_after_split
  split_left ward at =
      let pages : List Page = option_map_or (halved ward.pages at) (slice_get ward.pages at) ward.pages in
      ap (λ result. ward_after (bare ward) result pages) (split_same ward at) ∙ after_bare ward (split_of ward at) pages

  merge_left : (ward : WardState K) (at : ℕ) → ward_after_merge (bare ward) at ≡ bare (ward_after_merge ward at)
  unfolding ward_after_merge
  merge_left ward at =
      let pages : List Page = option_map_or (merged ward.pages at) (slice_get ward.pages at) ward.pages in
      ap (λ result. ward_after (bare ward) result pages) (merge_same ward at) ∙ after_bare ward (merge_of ward at) pages

  -- the world with the ward after its change
  change_alike : (world : WorldState K) (number : ℕ) (result : Result Notice WardFault) (left : WardState K) → after_change (uncounted world) number result (bare left) ≡ told (after_change world number result left)
  change_alike world number (Ok notice) left = ap (λ wards. (Ok (Changed notice), record world { wards = wards })) (sym (map-set bare world.wards number left))
  change_alike world number (Err fault) left = refl

  changed_alike : (world : WorldState K) (number : ℕ) (one other : Result Notice WardFault) (left bared : WardState K) → other ≡ one → bared ≡ bare left → after_change (uncounted world) number other bared ≡ told (after_change world number one left)
  changed_alike world number one other left bared same ward = ap (λ result. after_change (uncounted world) number result bared) same ∙ ap (after_change (uncounted world) number one) ward ∙ change_alike world number one left

-- ---- hops

module _ {K : Type 0} (pseudokey_of : K → List ℕ → ℕ) where
  hop_left : (ward : WardState K) (request : Request) (hop : Hop) → ward_after_hop pseudokey_of (bare ward) request hop ≡ bare (ward_after_hop pseudokey_of ward request hop)
  hop_left ward request (Done reply) = refl
  hop_left ward request (Moved next) = refl
  hop_left ward request MustSplit = refl
  hop_left ward request Stray = refl

  hop_alike : (world : WorldState K) (name : ℕ) (request : Request) (ward : WardState K) (hop : Hop) → hopped pseudokey_of (uncounted world) name request (bare ward) hop ≡ told (hopped pseudokey_of world name request ward hop)
  hop_alike world name request ward hop =
      let requests = requests_after name hop world.in_flight in
      let told_of : List Notice → Result Outcome StepFault = λ changes. Ok (hop_outcome request.ward (progress_with hop request.moves (request.distance + (length changes - request.changes)))) in
      ap (λ changes. (told_of changes, record world { wards = slice_set (map bare world.wards) request.ward (ward_after_hop pseudokey_of (bare ward) request hop); in_flight = requests })) (changes_same world request.ward)
      ∙ ap (λ left. (told_of (changes_in world request.ward), record world { wards = slice_set (map bare world.wards) request.ward left; in_flight = requests })) (hop_left ward request hop)
      ∙ ap (λ wards. (told_of (changes_in world request.ward), record world { wards = wards; in_flight = requests })) (sym (map-set bare world.wards request.ward (ward_after_hop pseudokey_of ward request hop)))

  -- ---- requests that begin

  from_alike : (world : WorldState K) (client : ℕ) (call : Call) (table : TableMap) → request_from pseudokey_of (uncounted world) client call table ≡ request_from pseudokey_of world client call table
  from_alike world client call table =
      let pseudokey = pseudokey_in pseudokey_of world call in
      let ward = ward_of world.ward_bits pseudokey in
      let page = (walk_of table world.ward_bits pseudokey).page in
      ap (λ pages. request_begun client call pseudokey ward page (distance_of pages page pseudokey) (length (changes_in (uncounted world) ward))) (pages_same world ward)
      ∙ ap (λ (changes : List Notice). request_begun client call pseudokey ward page (distance_of (pages_in world ward) page pseudokey) (length changes)) (changes_same world ward)

  -- ---- every step

  pub step_uncounted : (world : WorldState K) (event : Event) → step_of pseudokey_of (uncounted world) event ≡ told (step_of pseudokey_of world event)
  unfolding step_of
  step_uncounted world (Begin name client copy call) =
      if_alike (is_some (request_named name world.in_flight)) _ _ _ _ refl
      (found_alike world NoCopy (numbered world.copies copy) _ _ (λ table. ap (begun (uncounted world) name) (from_alike world client call table)))
  step_uncounted world (HopOn name) =
      found_alike world NoRequest (request_named name world.in_flight) _ _ (λ request.
      ward_alike world NoWard request.ward _ _ (λ ward.
      hop_alike world name request ward (hop_of world.cap (pseudokey_of world.keyer) ward.pages request.page request.call)))
  step_uncounted world (Split number page) = ward_alike world NoWard number _ _ (λ ward. changed_alike world number (split_of ward page) (split_of (bare ward) page) (ward_after_split ward page) (ward_after_split (bare ward) page) (split_same ward page) (split_left ward page))
  step_uncounted world (Merge number page) = ward_alike world NoWard number _ _ (λ ward. changed_alike world number (merge_of ward page) (merge_of (bare ward) page) (ward_after_merge ward page) (ward_after_merge (bare ward) page) (merge_same ward page) (merge_left ward page))
  step_uncounted world (Deliver copy number index) =
      found_alike world NoCopy (numbered world.copies copy) _ _ (λ table.
      ward_alike world NoWard number _ _ (λ ward.
      found_alike world NoNotice (find (λ (notice : Notice). nat_eq notice.index index) ward.notices) _ _ (λ notice. refl)))
  step_uncounted world (Send copy) = found_alike world NoCopy (numbered world.copies copy) _ _ (λ table. refl)
  step_uncounted world (Combine copy table) =
      found_alike world NoCopy (numbered world.copies copy) _ _ (λ own.
      found_alike world NoTable (numbered world.sent table) _ _ (λ other. refl))
  step_uncounted world (Restart copy) = found_alike world NoCopy (numbered world.copies copy) _ _ (λ own. refl)

  pub function_alike : StepFunctionGoesAlike pseudokey_of
  function_alike one other alike event =
      let same = sym (step_uncounted one event) ∙ ap (λ world. step_of pseudokey_of world event) alike ∙ step_uncounted other event in
      (ap (λ (stepped : Stepped K). stepped.0) same, ap (λ (stepped : Stepped K). stepped.1) same)
