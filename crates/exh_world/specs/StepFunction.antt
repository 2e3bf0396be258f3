-- One step of a world as a function, for whoever computes with it.
use Rattle.std.specs.Prelude.{ℕ, suc, ◌-◌, nat_eq, is_some, if◌then◌else◌, List, [], ◌∷◌, ◌++◌, length, find, slice_get, slice_set, Option, Result, Ok, Err}
use Rattle.std.specs.Option.{option_map_or}
use Rattle.exh_notice.specs.declared.notice.Notice.{Notice}
use Rattle.exh_table.specs.Table.{TableMap, table_with}
use Rattle.exh_table.specs.TableOrder.{table_join}
use Rattle.exh_table.specs.TableWalk.{walk_of}
use Rattle.exh_page.specs.declared.page.Page.{Page}
use Rattle.exh_ward.specs.HopTable.{hop_of, pages_after}
use Rattle.exh_ward.specs.MergeFunction.{merge_of, ward_after_merge}
use Rattle.exh_ward.specs.SplitFunction.{split_of, ward_after_split}
use Rattle.exh_ward.specs.WardState.{WardState}
use Rattle.exh_calls.specs.declared.call.Call.{Call}
use Rattle.exh_ward.specs.declared.hop.Hop.{Hop}
use Rattle.exh_ward.specs.declared.hop.Hop.TheVariants.{Done}
use Rattle.exh_ward.specs.declared.ward_fault.WardFault.{WardFault}
use Rattle.exh_walk.specs.DistanceFunction.{distance_of}
use Rattle.exh_world.specs.InFlight.{request_named, requests_after}
use Rattle.exh_world.specs.RequestProgress.{progress_of}
use Rattle.exh_world.specs.Step.{pseudokey_in, request_begun}
use Rattle.exh_prefix.specs.Leading.{ward_of}
use Rattle.exh_world.specs.World.{WorldState, changes_in, numbered}
use Rattle.exh_walk.specs.declared.event.Event.{Event}
use Rattle.exh_walk.specs.declared.event.Event.TheVariants.{Begin, Hop as HopOn, Split, Merge, Deliver, Send, Combine, Restart}
use Rattle.exh_walk.specs.EventProgress.{hop_outcome}
use Rattle.exh_walk.specs.declared.outcome.Outcome.{Outcome}
use Rattle.exh_walk.specs.declared.outcome.Outcome.TheVariants.{Begun, Changed, Taken, Sent, Joined, Restarted}
use Rattle.exh_world.specs.declared.request.Request.{Request}
use Rattle.exh_walk.specs.declared.step_fault.StepFault.{StepFault}
use Rattle.exh_walk.specs.declared.step_fault.StepFault.TheVariants.{NameTaken, NoCopy, NoRequest, NoWard, NoNotice, NoTable, Ward}

-- a result, and the world after it
abbrev pub Stepped : Type 0 → Type 0
Stepped K = Result Outcome StepFault × WorldState K

-- a refusal where nothing was found, else what comes of what was found
abbrev pub or_refused : {K A : Type 0} → WorldState K → StepFault → Option A → (A → Stepped K) → Stepped K
or_refused world fault found step = option_map_or step found (Err fault, world)

-- ---- requests

-- the pages of a ward
abbrev pub pages_in : {K : Type 0} → WorldState K → ℕ → List Page
pages_in world number = option_map_or (λ ward. ward.pages) (slice_get world.wards number) []

-- a request of a pseudokey that stands at a page of a ward
abbrev pub request_at : {K : Type 0} → WorldState K → ℕ → Call → ℕ → ℕ → ℕ → Request
request_at world client call pseudokey ward page = request_begun client call pseudokey ward page (distance_of (pages_in world ward) page pseudokey) (length (changes_in world ward))

-- it stands at the page that the table's walk names
abbrev pub request_from : {K : Type 0} → (K → List ℕ → ℕ) → WorldState K → ℕ → Call → TableMap → Request
request_from pseudokey_of world client call table =
    request_at world client call (pseudokey_in pseudokey_of world call) (ward_of world.ward_bits (pseudokey_in pseudokey_of world call)) (walk_of table world.ward_bits (pseudokey_in pseudokey_of world call)).page

abbrev pub begun : {K : Type 0} → WorldState K → ℕ → Request → Stepped K
begun world name request = (Ok (Begun request.ward request.page), record world { in_flight = world.in_flight ++ (name, request) ∷ [] })

-- an answer is written into the pages and the journal
abbrev pub ward_after_hop : {K : Type 0} → (K → List ℕ → ℕ) → WardState K → Request → Hop → WardState K
ward_after_hop pseudokey_of ward request (Done reply) = record ward {
  pages = pages_after ward.cap (pseudokey_of ward.keyer) ward.pages request.page request.call;
  journal = ward.journal ++ record { client = request.client; call = request.call; reply = reply } ∷ [];
}
ward_after_hop pseudokey_of ward request hop = ward

abbrev pub hopped : {K : Type 0} → (K → List ℕ → ℕ) → WorldState K → ℕ → Request → WardState K → Hop → Stepped K
hopped pseudokey_of world name request ward hop =
    (Ok (hop_outcome request.ward (progress_of world request hop)), record world { wards = slice_set world.wards request.ward (ward_after_hop pseudokey_of ward request hop); in_flight = requests_after name hop world.in_flight })

-- ---- splits and merges

-- what the ward's change came to, and the ward after it
abbrev pub after_change : {K : Type 0} → WorldState K → ℕ → Result Notice WardFault → WardState K → Stepped K
after_change world ward (Ok notice) left = (Ok (Changed notice), record world { wards = slice_set world.wards ward left })
after_change world ward (Err fault) left = (Err (Ward fault), world)

-- ---- copies

abbrev pub with_copy : {K : Type 0} → WorldState K → ℕ → TableMap → WorldState K
with_copy world copy table = record world { copies = slice_set world.copies (copy - 1) table }

-- ---- the step: the first refusal that fits, else the outcome

-- a sound world has the ward of each request
unfoldable pub step_of : {K : Type 0} → (K → List ℕ → ℕ) → WorldState K → Event → Stepped K
step_of pseudokey_of world (Begin name client copy call) =
    if is_some (request_named name world.in_flight)
    then (Err NameTaken, world)
    else or_refused world NoCopy (numbered world.copies copy) (λ table. begun world name (request_from pseudokey_of world client call table))
step_of pseudokey_of world (HopOn name) =
    or_refused world NoRequest (request_named name world.in_flight) (λ request.
    or_refused world NoWard (slice_get world.wards request.ward) (λ ward.
    hopped pseudokey_of world name request ward (hop_of world.cap (pseudokey_of world.keyer) ward.pages request.page request.call)))
step_of pseudokey_of world (Split ward page) = or_refused world NoWard (slice_get world.wards ward) (λ before. after_change world ward (split_of before page) (ward_after_split before page))
step_of pseudokey_of world (Merge ward page) = or_refused world NoWard (slice_get world.wards ward) (λ before. after_change world ward (merge_of before page) (ward_after_merge before page))
step_of pseudokey_of world (Deliver copy ward index) =
    or_refused world NoCopy (numbered world.copies copy) (λ table.
    or_refused world NoWard (slice_get world.wards ward) (λ teller.
    or_refused world NoNotice (find (λ notice. nat_eq notice.index index) teller.notices) (λ notice.
    (Ok (Taken notice), with_copy world copy (table_with table notice)))))
step_of pseudokey_of world (Send copy) = or_refused world NoCopy (numbered world.copies copy) (λ table. (Ok (Sent (suc (length world.sent))), record world { sent = world.sent ++ table ∷ [] }))
step_of pseudokey_of world (Combine copy table) =
    or_refused world NoCopy (numbered world.copies copy) (λ own.
    or_refused world NoTable (numbered world.sent table) (λ other.
    (Ok Joined, with_copy world copy (table_join own other))))
step_of pseudokey_of world (Restart copy) = or_refused world NoCopy (numbered world.copies copy) (λ own. (Ok Restarted, with_copy world copy world.start))

abbrev pub result_of : {K : Type 0} → (K → List ℕ → ℕ) → WorldState K → Event → Result Outcome StepFault
result_of pseudokey_of world event = (step_of pseudokey_of world event).0

abbrev pub world_after : {K : Type 0} → (K → List ℕ → ℕ) → WorldState K → Event → WorldState K
world_after pseudokey_of world event = (step_of pseudokey_of world event).1
