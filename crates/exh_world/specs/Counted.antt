-- The moves of requests, counted from any world of a run on.
use Rattle.std.specs.Prelude.{◌≡◌, ◌≢◌, ℕ, ◌+◌, ◌-◌, ◌≤◌, nat_eq, if◌then◌else◌, List, [], ◌∷◌, length, slice_get, All, Some, Result, Ok}
use Rattle.exh_calls.specs.declared.reply.Reply.{Reply}
use Rattle.exh_ward.specs.WardState.{WardState}
use Rattle.exh_ward.specs.Distance.{IsDistance}
use Rattle.exh_world.specs.InFlight.{request_named}
use Rattle.exh_world.specs.WorldRun.{Moment, IsRun}
use Rattle.exh_world.specs.Sound.{IsSoundWorld}
use Rattle.exh_world.specs.Step.{Step}
use Rattle.exh_world.specs.World.{WorldState, changes_in}
use Rattle.exh_walk.specs.declared.event.Event.{Event}
use Rattle.exh_walk.specs.declared.event.Event.TheVariants.{Hop as HopOn}
use Rattle.exh_walk.specs.declared.outcome.Outcome.{Outcome}
use Rattle.exh_walk.specs.declared.outcome.Outcome.TheVariants.{Hopped, Replied}
use Rattle.exh_ward.specs.declared.hop.Hop.TheVariants.{Moved}
use Rattle.exh_world.specs.declared.request.Request.{Request}
use Rattle.exh_walk.specs.declared.step_fault.StepFault.{StepFault}

-- ---- what is counted

-- a turn is one move of the request of a name where its hop moves it on, and none else
abbrev pub moves_by : ℕ → Event → Result Outcome StepFault → ℕ
moves_by name (HopOn other) (Ok (Hopped ward (Moved next))) = if nat_eq name other then 1 else 0
moves_by name event result = 0

abbrev pub moves_over : {K : Type 0} → ℕ → List (Moment K) → ℕ
moves_over name [] = 0
moves_over name (moment ∷ moments) = moves_by name moment.turn.event moment.turn.result + moves_over name moments

-- the changes that a ward has had in the later world and not yet in the earlier
abbrev pub changes_between : {K : Type 0} → WorldState K → WorldState K → ℕ → ℕ
changes_between now later ward = length (changes_in later ward) - length (changes_in now ward)

-- a request's page is so many moves from its answer
abbrev pub IsAway : {K : Type 0} → WorldState K → Request → ℕ → Type 0
IsAway {K} world request distance = (ward : WardState K) × (slice_get world.wards request.ward ≡ Some ward) × IsDistance ward.pages request.page request.pseudokey distance

-- the turn doesn't answer the request of a name
abbrev pub LeavesOpen : ℕ → Event → Result Outcome StepFault → Type 0
LeavesOpen name event result = event ≡ HopOn name → (ward : ℕ) (reply : Reply) (moves bound : ℕ) → result ≢ Ok (Replied ward reply moves bound)

abbrev pub AllLeaveOpen : {K : Type 0} → ℕ → List (Moment K) → Type 0
AllLeaveOpen {K} name moments = All (λ (moment : Moment K). LeavesOpen name moment.turn.event moment.turn.result) moments

-- ---- requests that aren't answered yet

-- The request is in flight in the later world too, the same but for its page and for so many moves more; where these are none, its page is the same too.
-- They and as many as it is then from its answer are at most as many as it was from it before, and the changes that its ward has had in between.
pub record GoesOn {K : Type 0} (now : WorldState K) (name : ℕ) (request : Request) (distance moves : ℕ) (later : WorldState K) : Type 0 where
  pub page : ℕ
  pub there : request_named name later.in_flight ≡ Some (record request { page = page; moves = request.moves + moves })
  pub stays : moves ≡ 0 → page ≡ request.page
  pub left : ℕ
  pub is_left : IsAway later (record request { page = page }) left
  pub since : length (changes_in now request.ward) ≤ length (changes_in later request.ward)
  pub few : left + moves ≤ distance + changes_between now later request.ward

-- over every run from a sound world that doesn't answer the request
abbrev pub RequestsGoOn : {K : Type 0} → (K → List ℕ → ℕ) → Type 0
RequestsGoOn {K} pseudokey_of = (now : WorldState K) (moments : List (Moment K)) (later : WorldState K) → IsSoundWorld pseudokey_of now → IsRun pseudokey_of now moments later
    → (name : ℕ) (request : Request) → request_named name now.in_flight ≡ Some request → AllLeaveOpen name moments
    → (distance : ℕ) → IsAway now request distance → GoesOn now name request distance (moves_over name moments) later

-- ---- and those that are

-- the answer tells the moves that the request had made and those counted since, which are at most as many as it was from its answer and the changes that its ward has
-- had since; what it tells as their bound is the distance when begun and the changes that the ward has had since then
pub record TellsMoves {K : Type 0} (now : WorldState K) (request : Request) (distance counted : ℕ) (answering : WorldState K) (moves bound : ℕ) : Type 0 where
  pub told : moves ≡ request.moves + counted
  pub few : counted ≤ distance + changes_between now answering request.ward
  pub bound_is : bound ≡ request.distance + (length (changes_in answering request.ward) - request.changes)
  pub within : moves ≤ bound

-- over every run from a sound world up to the hop that answers the request
abbrev pub AnswersAreCounted : {K : Type 0} → (K → List ℕ → ℕ) → Type 0
AnswersAreCounted {K} pseudokey_of = (now : WorldState K) (moments : List (Moment K)) (answering after : WorldState K) → IsSoundWorld pseudokey_of now → IsRun pseudokey_of now moments answering
    → (name : ℕ) (request : Request) → request_named name now.in_flight ≡ Some request → AllLeaveOpen name moments
    → (distance : ℕ) → IsAway now request distance
    → (ward : ℕ) (reply : Reply) (moves bound : ℕ) → Step pseudokey_of answering (HopOn name) (Ok (Replied ward reply moves bound)) after
    → TellsMoves now request distance (moves_over name moments) answering moves bound

-- ---- one step

-- each request in flight goes on, if the step doesn't answer it; an answer tells the moves that its request had made, which are at most its bound
pub record CountsMoves {K : Type 0} (old : WorldState K) (event : Event) (result : Result Outcome StepFault) (new : WorldState K) : Type 0 where
  pub goes_on : (name : ℕ) (request : Request) → request_named name old.in_flight ≡ Some request → LeavesOpen name event result
      → (distance : ℕ) → IsAway old request distance → GoesOn old name request distance (moves_by name event result) new
  pub answers : (name ward : ℕ) (reply : Reply) (moves bound : ℕ) → event ≡ HopOn name → result ≡ Ok (Replied ward reply moves bound)
      → (request : Request) → request_named name old.in_flight ≡ Some request → (distance : ℕ) → IsAway old request distance → TellsMoves old request distance 0 old moves bound

-- of every step of a sound world
abbrev pub StepsCountMoves : {K : Type 0} → (K → List ℕ → ℕ) → Type 0
StepsCountMoves {K} pseudokey_of = (old : WorldState K) (event : Event) (result : Result Outcome StepFault) (new : WorldState K)
    → IsSoundWorld pseudokey_of old → Step pseudokey_of old event result new → CountsMoves old event result new
