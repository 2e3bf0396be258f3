-- One step of a world: an event, its outcome or refusal, and the world after it.
use Rattle.std.specs.Prelude.{◌≡◌, ◌≢◌, ◌<◌, ◌⊎◌, IsSome, ℕ, suc, ◌-◌, List, [], ◌∷◌, ◌++◌, length, slice_get, slice_set, Contains, Some, None, Result, Ok, Err}
use Rattle.exh_notice.specs.declared.notice.Notice.{Notice}
use Rattle.exh_table.specs.Table.{TableMap, table_with}
use Rattle.exh_table.specs.TableOrder.{table_join}
use Rattle.exh_table.specs.TableWalk.{walk_of}
use Rattle.exh_calls.specs.Call.{key_of}
use Rattle.exh_ward.specs.HopTable.{HopOf}
use Rattle.exh_ward.specs.declared.hop.Hop.TheVariants as hops
use Rattle.exh_ward.specs.WardState.{WardState, LeavesAfter}
use Rattle.exh_ward.specs.MergeStep.{IsMergeStep}
use Rattle.exh_ward.specs.WardFault.{MergeRefused, SplitRefused}
use Rattle.exh_ward.specs.SplitStep.{IsSplitStep}
use Rattle.exh_calls.specs.declared.call.Call.{Call}
use Rattle.exh_ward.specs.declared.ward_fault.WardFault.{WardFault}
use Rattle.exh_ward.specs.declared.ward_fault.WardFault.TheVariants.{Memory, Page}
use Rattle.exh_ward.specs.Distance.{IsDistance}
use Rattle.exh_world.specs.InFlight.{request_named, requests_after}
use Rattle.exh_walk.specs.EventProgress.{Progress, hop_in}
use Rattle.exh_walk.specs.EventProgress as progresses
use Rattle.exh_world.specs.RequestProgress.{progress_of}
use Rattle.exh_prefix.specs.Leading.{ward_of}
use Rattle.exh_world.specs.World.{WorldState, numbered, changes_in, issued_in}
use Rattle.exh_walk.specs.declared.event.Event.{Event}
use Rattle.exh_walk.specs.declared.event.Event.TheVariants.{Begin, Hop as HopOn, Split, Merge, Deliver, Send, Combine, Restart}
use Rattle.exh_walk.specs.declared.outcome.Outcome.{Outcome}
use Rattle.exh_walk.specs.declared.outcome.Outcome.TheVariants.{Begun, Hopped, Replied, Changed, Taken, Sent, Joined, Restarted}
use Rattle.exh_world.specs.declared.request.Request.{Request}
use Rattle.exh_walk.specs.declared.step_fault.StepFault.{StepFault}
use Rattle.exh_walk.specs.declared.step_fault.StepFault.TheVariants.{NameTaken, NoCopy, NoRequest, NoWard, NoNotice, NoTable, Ward}

-- the pseudokey of a call's key
abbrev pub pseudokey_in : {K : Type 0} → (K → List ℕ → ℕ) → WorldState K → Call → ℕ
pseudokey_in pseudokey_of world call = pseudokey_of world.keyer (key_of call)

-- ---- refusals: each comes where its condition holds and those before it in the event's order don't

-- a split or merge of a page of a ward: there is no such ward, or the ward refuses, and not for a page out of reach
abbrev pub IsChangeRefused : {K : Type 0} → WorldState K → (WardState K → ℕ → WardFault → Type 0) → ℕ → ℕ → StepFault → Type 0
IsChangeRefused world Refuses ward page NoWard = slice_get world.wards ward ≡ None
IsChangeRefused world Refuses ward page (Ward fault) = (before : WardState _) × (slice_get world.wards ward ≡ Some before) × Refuses before page fault × (fault ≢ Page)
IsChangeRefused world Refuses ward page fault = ⊥

abbrev pub IsRefused : {K : Type 0} → WorldState K → Event → StepFault → Type 0
IsRefused world (Begin name client copy call) NameTaken = IsSome (request_named name world.in_flight)
IsRefused world (Begin name client copy call) NoCopy = (request_named name world.in_flight ≡ None) × (numbered world.copies copy ≡ None)
IsRefused world (HopOn name) NoRequest = request_named name world.in_flight ≡ None
IsRefused world (Split ward page) fault = IsChangeRefused world (λ before. SplitRefused before.cap before.pages) ward page fault
IsRefused world (Merge ward page) fault = IsChangeRefused world MergeRefused ward page fault
IsRefused world (Deliver copy ward index) NoCopy = numbered world.copies copy ≡ None
IsRefused world (Deliver copy ward index) NoWard = IsSome (numbered world.copies copy) × (slice_get world.wards ward ≡ None)
IsRefused world (Deliver copy ward index) NoNotice =
    IsSome (numbered world.copies copy) × IsSome (slice_get world.wards ward) × ((notice : Notice) → Contains (issued_in world ward) notice → notice.index ≢ index)
IsRefused world (Send copy) NoCopy = numbered world.copies copy ≡ None
IsRefused world (Combine copy table) NoCopy = numbered world.copies copy ≡ None
IsRefused world (Combine copy table) NoTable = IsSome (numbered world.copies copy) × (numbered world.sent table ≡ None)
IsRefused world (Restart copy) NoCopy = numbered world.copies copy ≡ None
IsRefused world event fault = ⊥

-- ---- pages out of reach

-- a page of the ward couldn't be reached: the ward counts more failures, and nothing else differs
pub record CountsFailure {K : Type 0} (old : WorldState K) (ward : ℕ) (new : WorldState K) : Type 0 where
  pub before : WardState K
  pub found : slice_get old.wards ward ≡ Some before
  pub failures : ℕ
  pub more : before.failures < failures
  pub after : new ≡ record old { wards = slice_set old.wards ward (record before { failures = failures }) }

-- the ward whose pages an event reaches for: that of a request that begins or hops, and that of a split or merge; no other event reaches for one
abbrev pub ReachesInto : {K : Type 0} → (K → List ℕ → ℕ) → WorldState K → Event → ℕ → Type 0
ReachesInto pseudokey_of world (Begin name client copy call) number =
    (request_named name world.in_flight ≡ None) × IsSome (numbered world.copies copy) × (number ≡ ward_of world.ward_bits (pseudokey_in pseudokey_of world call))
ReachesInto pseudokey_of world (HopOn name) number = (request : Request) × (request_named name world.in_flight ≡ Some request) × (number ≡ request.ward)
ReachesInto pseudokey_of world (Split ward page) number = number ≡ ward
ReachesInto pseudokey_of world (Merge ward page) number = number ≡ ward
ReachesInto pseudokey_of world event number = ⊥

-- What a refusal leaves: for a reason that holds, and for want of memory, which may stand at any call, the world as it was. That a page is out of
-- reach is answered only where a ward that the call reaches into counts it.
abbrev pub LeavesRefused : {K : Type 0} → (ℕ → Type 0) → (StepFault → Type 0) → WorldState K → StepFault → WorldState K → Type 0
LeavesRefused Reaches Reason old fault new =
    ((new ≡ old) × (Reason fault ⊎ (fault ≡ Ward Memory))) ⊎ ((fault ≡ Ward Page) × (number : ℕ) × Reaches number × CountsFailure old number new)

-- a request that hasn't moved yet
abbrev pub request_begun : ℕ → Call → ℕ → ℕ → ℕ → ℕ → ℕ → Request
request_begun client call pseudokey ward page distance changes = record { client = client; call = call; pseudokey = pseudokey; ward = ward; page = page; distance = distance; moves = 0; changes = changes }

-- ---- effects: the outcome, what it asks of the world before, and the world after, in which all else is equal

-- the request stands at the page that the copy's walk names; kept are the page's distance from the answer, and the changes that the ward has had
pub record HasBegun {K : Type 0} (pseudokey_of : K → List ℕ → ℕ) (old : WorldState K) (name client copy : ℕ) (call : Call) (ward page : ℕ) (new : WorldState K) : Type 0 where
  pub free : request_named name old.in_flight ≡ None
  pub table : TableMap
  pub there : numbered old.copies copy ≡ Some table
  pub ward_is : ward ≡ ward_of old.ward_bits (pseudokey_in pseudokey_of old call)
  pub page_is : page ≡ (walk_of table old.ward_bits (pseudokey_in pseudokey_of old call)).page
  pub before : WardState K
  pub found : slice_get old.wards ward ≡ Some before
  pub distance : ℕ
  pub is_distance : IsDistance before.pages page (pseudokey_in pseudokey_of old call) distance
  pub after : new ≡ record old { in_flight = old.in_flight ++ (name, request_begun client call (pseudokey_in pseudokey_of old call) ward page distance (length (changes_in old ward))) ∷ [] }

-- the hop is the hop table's, told with the request's moves and their bound where it answers, and leaves of the ward what a hop leaves
pub record HasHopped {K : Type 0} (pseudokey_of : K → List ℕ → ℕ) (old : WorldState K) (name ward : ℕ) (hop : Progress) (new : WorldState K) : Type 0 where
  pub request : Request
  pub there : request_named name old.in_flight ≡ Some request
  pub ward_is : ward ≡ request.ward
  pub before : WardState K
  pub found : slice_get old.wards ward ≡ Some before
  pub outcome : HopOf old.cap (pseudokey_of old.keyer) before.pages request.page request.call (hop_in hop)
  pub counted : hop ≡ progress_of old request (hop_in hop)
  pub left : WardState K
  pub leaves : LeavesAfter pseudokey_of before request.page request.client request.call (hop_in hop) left
  pub after : new ≡ record old { wards = slice_set old.wards ward left; in_flight = requests_after name (hop_in hop) old.in_flight }

-- the ward's change, whose notice is issued
pub record HasChanged {K : Type 0} (Changes : WardState K → ℕ → Notice → WardState K → Type 0) (old : WorldState K) (ward page : ℕ) (notice : Notice) (new : WorldState K) : Type 0 where
  pub before : WardState K
  pub found : slice_get old.wards ward ≡ Some before
  pub left : WardState K
  pub change : Changes before page notice left
  pub after : new ≡ record old { wards = slice_set old.wards ward left }

-- the copy takes the issued notice of the index
pub record HasTaken {K : Type 0} (old : WorldState K) (copy ward index : ℕ) (notice : Notice) (new : WorldState K) : Type 0 where
  pub table : TableMap
  pub there : numbered old.copies copy ≡ Some table
  pub issued : Contains (issued_in old ward) notice
  pub index_is : notice.index ≡ index
  pub after : new ≡ record old { copies = slice_set old.copies (copy - 1) (table_with table notice) }

-- the copy's table is kept for good, under the next number
pub record HasSent {K : Type 0} (old : WorldState K) (copy number : ℕ) (new : WorldState K) : Type 0 where
  pub table : TableMap
  pub there : numbered old.copies copy ≡ Some table
  pub number_is : number ≡ suc (length old.sent)
  pub after : new ≡ record old { sent = old.sent ++ table ∷ [] }

-- the copy joins the sent table
pub record HasJoined {K : Type 0} (old : WorldState K) (copy table : ℕ) (new : WorldState K) : Type 0 where
  pub own : TableMap
  pub there : numbered old.copies copy ≡ Some own
  pub other : TableMap
  pub sent : numbered old.sent table ≡ Some other
  pub after : new ≡ record old { copies = slice_set old.copies (copy - 1) (table_join own other) }

-- the copy is back at the start table
pub record HasRestarted {K : Type 0} (old : WorldState K) (copy : ℕ) (new : WorldState K) : Type 0 where
  pub own : TableMap
  pub there : numbered old.copies copy ≡ Some own
  pub after : new ≡ record old { copies = slice_set old.copies (copy - 1) old.start }

abbrev pub HasEffect : {K : Type 0} → (K → List ℕ → ℕ) → WorldState K → Event → Outcome → WorldState K → Type 0
HasEffect pseudokey_of old (Begin name client copy call) (Begun ward page) new = HasBegun pseudokey_of old name client copy call ward page new
HasEffect pseudokey_of old (HopOn name) (Replied ward reply moves bound) new = HasHopped pseudokey_of old name ward (progresses.Done reply moves bound) new
HasEffect pseudokey_of old (HopOn name) (Hopped ward (hops.Moved next)) new = HasHopped pseudokey_of old name ward (progresses.Moved next) new
HasEffect pseudokey_of old (HopOn name) (Hopped ward hops.MustSplit) new = HasHopped pseudokey_of old name ward progresses.MustSplit new
HasEffect pseudokey_of old (HopOn name) (Hopped ward hops.Stray) new = HasHopped pseudokey_of old name ward progresses.Stray new
HasEffect pseudokey_of old (Split ward page) (Changed notice) new = HasChanged IsSplitStep old ward page notice new
HasEffect pseudokey_of old (Merge ward page) (Changed notice) new = HasChanged IsMergeStep old ward page notice new
HasEffect pseudokey_of old (Deliver copy ward index) (Taken notice) new = HasTaken old copy ward index notice new
HasEffect pseudokey_of old (Send copy) (Sent number) new = HasSent old copy number new
HasEffect pseudokey_of old (Combine copy table) Joined new = HasJoined old copy table new
HasEffect pseudokey_of old (Restart copy) Restarted new = HasRestarted old copy new
HasEffect pseudokey_of old event outcome new = ⊥

-- ---- the step

abbrev pub Step : {K : Type 0} → (K → List ℕ → ℕ) → WorldState K → Event → Result Outcome StepFault → WorldState K → Type 0
Step pseudokey_of old event (Ok outcome) new = HasEffect pseudokey_of old event outcome new
Step pseudokey_of old event (Err fault) new = LeavesRefused (ReachesInto pseudokey_of old event) (IsRefused old event) old fault new
