-- What the headline says of a run, each field in other words.
use Rattle.std.specs.Prelude.{◌≡◌, ◌≢◌, ◌↔◌, ◌⊎◌, ℕ, suc, ◌==◌, if◌then◌else◌, Bool, List, [], ◌∷◌, ◌++◌, length, map, fold, slice_get, Option, Some, Result, Ok, All, Contains}
use Rattle.exh_prefix.specs.Prefix.{Begins}
use Rattle.exh_notice.specs.declared.notice.Notice.{Notice}
use Rattle.exh_table.specs.Table.{TableMap, table_with}
use Rattle.exh_table.specs.TableOrder.{table_join}
use Rattle.exh_page.specs.declared.page.Page.TheVariants.{Live}
use Rattle.exh_page.specs.declared.record.Record.{Record}
use Rattle.exh_legal.specs.Pages.{IsAt}
use Rattle.exh_calls.specs.MapMachine.{reply_of}
use Rattle.exh_calls.specs.History.{map_left}
use Rattle.exh_ward.specs.WardState.{WardState}
use Rattle.exh_calls.specs.declared.reply.Reply.{Reply}
use Rattle.exh_world.specs.Headline.{IsHeadline}
use Rattle.exh_world.specs.InFlight.{request_named}
use Rattle.exh_world.specs.WorldRun.{Moment, answered_in, journal_entry_of}
use Rattle.exh_world.specs.Step.{Step}
use Rattle.exh_world.specs.World.{WorldState, numbered, current_leaves, map_in}
use Rattle.exh_walk.specs.declared.event.Event.{Event}
use Rattle.exh_walk.specs.declared.event.Event.TheVariants.{Hop, Deliver, Combine, Restart}
use Rattle.exh_walk.specs.declared.outcome.Outcome.{Outcome}
use Rattle.exh_walk.specs.declared.outcome.Outcome.TheVariants.{Hopped, Replied, Taken, Joined, Restarted}
use Rattle.exh_ward.specs.declared.hop.Hop.{Hop as HopType}
use Rattle.exh_ward.specs.declared.hop.Hop.TheVariants.{Moved, MustSplit}
use Rattle.exh_world.specs.declared.request.Request.{Request}
use Rattle.exh_walk.specs.declared.step_fault.StepFault.{StepFault}
use Rattle.exh_walk.specs.declared.turn.Turn.{Turn}

-- ---- step by step

-- the worlds before and after each turn of a run, one more than the turns: each is a step from the one before it
pub record AreWorldsOf {K : Type 0} (pseudokey_of : K → List ℕ → ℕ) (start : WorldState K) (turns : List Turn) (end : WorldState K) (worlds : List (WorldState K)) : Type 0 where
  pub count : length worlds ≡ suc (length turns)
  pub first : slice_get worlds 0 ≡ Some start
  pub last : slice_get worlds (length turns) ≡ Some end
  pub each : (at : ℕ) (turn : Turn) (before after : WorldState K) → slice_get turns at ≡ Some turn → slice_get worlds at ≡ Some before → slice_get worlds (suc at) ≡ Some after
      → Step pseudokey_of before turn.event turn.result after

-- a run goes from its start to its end by one step a turn
abbrev pub RunsGoStepByStep : {K : Type 0} → (K → List ℕ → ℕ) → Type 0
RunsGoStepByStep {K} pseudokey_of = (start : WorldState K) (turns : List Turn) (end : WorldState K) → IsHeadline pseudokey_of start turns end
    → (worlds : List (WorldState K)) × AreWorldsOf pseudokey_of start turns end worlds

-- ---- copies

-- the notices that a copy took over turns, in order
abbrev pub notice_taken : ℕ → Event → Result Outcome StepFault → List Notice
notice_taken copy (Deliver other ward index) (Ok (Taken notice)) = if other == copy then notice ∷ [] else []
notice_taken copy event result = []

abbrev pub notices_taken : ℕ → List Turn → List Notice
notices_taken copy [] = []
notices_taken copy (turn ∷ turns) = notice_taken copy turn.event turn.result ++ notices_taken copy turns

-- the turn neither combines the copy with a sent table nor restarts it
pub record LeavesToNotices (copy : ℕ) (turn : Turn) : Type 0 where
  pub no_combine : (table : ℕ) → turn ≢ record { event = Combine copy table; result = Ok Joined }
  pub no_restart : turn ≢ record { event = Restart copy; result = Ok Restarted }

-- A copy's table is the one that it had, with each notice that it took since: where it took none it is that table. After
-- a restart it had the start table.
pub record IsTableWithNotices {K : Type 0} (start : WorldState K) (turns : List Turn) (end : WorldState K) (copy : ℕ) (table : TableMap) : Type 0 where
  pub from_start : (own : TableMap) → numbered start.copies copy ≡ Some own → All (LeavesToNotices copy) turns → table ≡ fold table_with own (notices_taken copy turns)
  pub from_restart : (front since : List Turn) → turns ≡ front ++ record { event = Restart copy; result = Ok Restarted } ∷ since → All (LeavesToNotices copy) since
      → table ≡ fold table_with start.start (notices_taken copy since)

abbrev pub CopiesTakeNotices : {K : Type 0} → (K → List ℕ → ℕ) → Type 0
CopiesTakeNotices {K} pseudokey_of = (start : WorldState K) (turns : List Turn) (end : WorldState K) → IsHeadline pseudokey_of start turns end
    → (copy : ℕ) (table : TableMap) → numbered end.copies copy ≡ Some table → IsTableWithNotices start turns end copy table

-- two copies that had equal tables and took the same notices since, in any order, however often, have equal tables
abbrev pub SameNoticesSameTables : {K : Type 0} → (K → List ℕ → ℕ) → Type 0
SameNoticesSameTables {K} pseudokey_of = (start : WorldState K) (turns : List Turn) (end : WorldState K) → IsHeadline pseudokey_of start turns end
    → (one other : ℕ) (own table twin : TableMap) → numbered start.copies one ≡ Some own → numbered start.copies other ≡ Some own
    → All (LeavesToNotices one) turns → All (LeavesToNotices other) turns
    → ((notice : Notice) → Contains (notices_taken one turns) notice ↔ Contains (notices_taken other turns) notice)
    → numbered end.copies one ≡ Some table → numbered end.copies other ≡ Some twin → table ≡ twin

-- a combine leaves the copy with the greater of both entries at each prefix
abbrev pub CombinesJoin : {K : Type 0} → (K → List ℕ → ℕ) → Type 0
CombinesJoin {K} pseudokey_of = (start : WorldState K) (turns : List Turn) (end : WorldState K) (headline : IsHeadline pseudokey_of start turns end)
    → (moment : Moment K) → Contains headline.moments moment → (copy number : ℕ) → moment.turn ≡ record { event = Combine copy number; result = Ok Joined }
    → (own sent : TableMap) → numbered moment.before.copies copy ≡ Some own → numbered moment.before.sent number ≡ Some sent
    → numbered moment.after.copies copy ≡ Some (table_join own sent)

-- ---- answers

-- the request stands at a live page whose prefix is the one leaf of its ward, as the directory is now, that begins its pseudokey
pub record IsAtTheOneLeaf {K : Type 0} (world : WorldState K) (request : Request) : Type 0 where
  pub ward : WardState K
  pub there : slice_get world.wards request.ward ≡ Some ward
  pub prefix : List Bool
  pub right : Option ℕ
  pub records : List Record
  pub live : IsAt ward.pages request.page (Live prefix right records)
  pub begins : Begins prefix request.pseudokey
  pub leaf : current_leaves world request.ward prefix
  pub only : (other : List Bool) → current_leaves world request.ward other → Begins other request.pseudokey → other ≡ prefix

-- the hop at that moment answers the request
pub record Answers {K : Type 0} (moment : Moment K) (request : Request) (reply : Reply) : Type 0 where
  pub name : ℕ
  pub event : moment.turn.event ≡ Hop name
  pub named : request_named name moment.before.in_flight ≡ Some request
  pub ward : ℕ
  pub moves : ℕ
  pub bound : ℕ
  pub result : moment.turn.result ≡ Ok (Replied ward reply moves bound)

abbrev pub AnswersComeFromTheOneLeaf : {K : Type 0} → (K → List ℕ → ℕ) → Type 0
AnswersComeFromTheOneLeaf {K} pseudokey_of = (start : WorldState K) (turns : List Turn) (end : WorldState K) (headline : IsHeadline pseudokey_of start turns end)
    → (moment : Moment K) → Contains headline.moments moment → (request : Request) (reply : Reply) → Answers moment request reply → IsAtTheOneLeaf moment.before request

-- each hop that doesn't answer moves on, or waits for a split
abbrev pub HopsLeadOn : {K : Type 0} → (K → List ℕ → ℕ) → Type 0
HopsLeadOn {K} pseudokey_of = (start : WorldState K) (turns : List Turn) (end : WorldState K) → IsHeadline pseudokey_of start turns end
    → (turn : Turn) → Contains turns turn → (ward : ℕ) (hop : HopType) → turn.result ≡ Ok (Hopped ward hop)
    → ((next : ℕ) × (hop ≡ Moved next)) ⊎ (hop ≡ MustSplit)

-- a run without answers keeps the map, whatever is split, merged or told
abbrev pub OnlyAnswersChangeTheMap : {K : Type 0} → (K → List ℕ → ℕ) → Type 0
OnlyAnswersChangeTheMap {K} pseudokey_of = (start : WorldState K) (turns : List Turn) (end : WorldState K) → IsHeadline pseudokey_of start turns end
    → All (λ (turn : Turn). (ward : ℕ) (reply : Reply) (moves bound : ℕ) → turn.result ≢ Ok (Replied ward reply moves bound)) turns → map_in end ≡ map_in start

-- an answer is the map machine's, over the map that the answers before it leave of the map at the start
abbrev pub RepliesFollowTheAnswersBefore : {K : Type 0} → (K → List ℕ → ℕ) → Type 0
RepliesFollowTheAnswersBefore {K} pseudokey_of = (start : WorldState K) (turns : List Turn) (end : WorldState K) (headline : IsHeadline pseudokey_of start turns end)
    → (front back : List (Moment K)) (moment : Moment K) → headline.moments ≡ front ++ moment ∷ back → (request : Request) (reply : Reply) → Answers moment request reply
    → reply ≡ reply_of start.cap (pseudokey_of start.keyer) (map_left start.cap (pseudokey_of start.keyer) (map_in start) (map journal_entry_of (answered_in front))) request.call
