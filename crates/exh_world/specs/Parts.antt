-- The moves of the requests of a run that was made, over each part of it.
use Rattle.std.specs.Prelude.{◌≡◌, ℕ, List, ◌∷◌, ◌++◌, length, Some, Ok}
use Rattle.exh_table.specs.Table.{TableMap}
use Rattle.exh_calls.specs.declared.call.Call.{Call}
use Rattle.exh_calls.specs.declared.reply.Reply.{Reply}
use Rattle.exh_world.specs.Counted.{moves_over, AllLeaveOpen, IsAway, GoesOn, TellsMoves}
use Rattle.exh_world.specs.Current.{IsCurrentIn, LooksOnce}
use Rattle.exh_world.specs.InFlight.{request_named}
use Rattle.exh_world.specs.WorldRun.{Moment, IsRun}
use Rattle.exh_world.specs.Sound.{IsSoundWorld}
use Rattle.exh_world.specs.Step.{pseudokey_in, request_begun}
use Rattle.exh_world.specs.Taken.{HasTakenAll, turns_of}
use Rattle.exh_world.specs.World.{WorldState, changes_in, numbered}
use Rattle.exh_walk.specs.declared.event.Event.TheVariants.{Begin, Hop as HopOn}
use Rattle.exh_walk.specs.declared.outcome.Outcome.TheVariants.{Begun, Replied}
use Rattle.exh_walk.specs.EventProgress.{Progress, hop_outcome}
use Rattle.exh_world.specs.declared.request.Request.{Request}
use Rattle.exh_walk.specs.declared.turn.Turn.{Turn}

-- ---- from any world of the run on

-- a part of a run, which leads from one of its worlds to a later one
pub record IsPart {K : Type 0} (pseudokey_of : K → List ℕ → ℕ) (start : WorldState K) (moments : List (Moment K)) (now : WorldState K) (part : List (Moment K)) (later : WorldState K) : Type 0 where
  pub front : List (Moment K)
  pub back : List (Moment K)
  pub cut : moments ≡ front ++ (part ++ back)
  pub before : IsRun pseudokey_of start front now
  pub within : IsRun pseudokey_of now part later

-- The turns are a run between the worlds. Over each part of it each request that is in flight where the part begins goes on, if the part doesn't answer it;
-- and a hop that answers it next tells the moves that it had made there and those counted since, which are at most its bound.
pub record HasCountedMoves {K : Type 0} (pseudokey_of : K → List ℕ → ℕ) (start : WorldState K) (turns : List Turn) (end : WorldState K) : Type 0 where
  pub moments : List (Moment K)
  pub turns_are : turns_of moments ≡ turns
  pub run : IsRun pseudokey_of start moments end
  pub goes_on : (now : WorldState K) (part : List (Moment K)) (later : WorldState K) → IsPart pseudokey_of start moments now part later
      → (name : ℕ) (request : Request) → request_named name now.in_flight ≡ Some request → AllLeaveOpen name part
      → (distance : ℕ) → IsAway now request distance → GoesOn now name request distance (moves_over name part) later
  pub answers : (now : WorldState K) (part : List (Moment K)) (hop : Moment K) (is : IsPart pseudokey_of start moments now part hop.before) (rest : List (Moment K)) → is.back ≡ hop ∷ rest
      → (name ward : ℕ) (reply : Reply) (moves bound : ℕ) → hop.turn ≡ record { event = HopOn name; result = Ok (Replied ward reply moves bound) }
      → (request : Request) → request_named name now.in_flight ≡ Some request → AllLeaveOpen name part
      → (distance : ℕ) → IsAway now request distance → TellsMoves now request distance (moves_over name part) hop.before moves bound

-- over every run from a sound world, of its own moments
abbrev pub RunsCountMoves : {K : Type 0} → (K → List ℕ → ℕ) → Type 0
RunsCountMoves {K} pseudokey_of = (start : WorldState K) (moments : List (Moment K)) (end : WorldState K) → IsSoundWorld pseudokey_of start → IsRun pseudokey_of start moments end
    → (counted : HasCountedMoves pseudokey_of start (turns_of moments) end) × (counted.moments ≡ moments)

-- ---- where its copy is current

-- a request begins at a copy after the first turns of a run, and makes a hop later; in between it isn't answered, and its ward doesn't change
pub record BeginsAndHops {K : Type 0} (moments front : List (Moment K)) (begin hop : Moment K) (name client copy : ℕ) (call : Call) (ward page : ℕ) (progress : Progress) : Type 0 where
  pub part : List (Moment K)
  pub back : List (Moment K)
  pub cut : moments ≡ front ++ begin ∷ (part ++ hop ∷ back)
  pub begins : begin.turn ≡ record { event = Begin name client copy call; result = Ok (Begun ward page) }
  pub open_still : AllLeaveOpen name part
  pub changes : changes_in hop.before ward ≡ changes_in begin.after ward
  pub number : ℕ
  pub hops : hop.turn ≡ record { event = HopOn name; result = Ok (hop_outcome number progress) }

-- a request begins at a copy after the first turns of a run
pub record BeginsAfter {K : Type 0} (moments front : List (Moment K)) (begin : Moment K) (name client copy : ℕ) (call : Call) (ward page : ℕ) : Type 0 where
  pub back : List (Moment K)
  pub cut : moments ≡ front ++ begin ∷ back
  pub begins : begin.turn ≡ record { event = Begin name client copy call; result = Ok (Begun ward page) }

-- The turns are a run between the worlds. A request that begins in it at a copy that is current in its ward, as one is that took all of the ward's
-- changes, is at the distance 0, whether it hops or not, and doesn't move before the ward changes: its first hop answers, or says that the page must
-- split.
pub record HasCurrentCopies {K : Type 0} (pseudokey_of : K → List ℕ → ℕ) (start : WorldState K) (turns : List Turn) (end : WorldState K) : Type 0 where
  pub moments : List (Moment K)
  pub turns_are : turns_of moments ≡ turns
  pub run : IsRun pseudokey_of start moments end
  pub current : (front : List (Moment K)) (begin hop : Moment K) (name client copy : ℕ) (call : Call) (ward page : ℕ) (progress : Progress) → BeginsAndHops moments front begin hop name client copy call ward page progress
      → (table : TableMap) → numbered begin.before.copies copy ≡ Some table → IsCurrentIn begin.before ward table
      → LooksOnce (request_begun client call (pseudokey_in pseudokey_of begin.before call) ward page 0 (length (changes_in begin.before ward))) name hop.before progress
  pub current_begin : (front : List (Moment K)) (begin : Moment K) (name client copy : ℕ) (call : Call) (ward page : ℕ) → BeginsAfter moments front begin name client copy call ward page
      → (table : TableMap) → numbered begin.before.copies copy ≡ Some table → IsCurrentIn begin.before ward table
      → request_named name begin.after.in_flight ≡ Some (request_begun client call (pseudokey_in pseudokey_of begin.before call) ward page 0 (length (changes_in begin.before ward)))
  pub takers_begin : (front : List (Moment K)) (begin : Moment K) (name client copy : ℕ) (call : Call) (ward page : ℕ) → BeginsAfter moments front begin name client copy call ward page
      → HasTakenAll start (turns_of front) begin.before copy ward
      → request_named name begin.after.in_flight ≡ Some (request_begun client call (pseudokey_in pseudokey_of begin.before call) ward page 0 (length (changes_in begin.before ward)))
  pub takers : (front : List (Moment K)) (begin hop : Moment K) (name client copy : ℕ) (call : Call) (ward page : ℕ) (progress : Progress) → BeginsAndHops moments front begin hop name client copy call ward page progress
      → HasTakenAll start (turns_of front) begin.before copy ward
      → LooksOnce (request_begun client call (pseudokey_in pseudokey_of begin.before call) ward page 0 (length (changes_in begin.before ward))) name hop.before progress

abbrev pub RunsHaveCurrentCopies : {K : Type 0} → (K → List ℕ → ℕ) → Type 0
RunsHaveCurrentCopies {K} pseudokey_of = (start : WorldState K) (moments : List (Moment K)) (end : WorldState K) → IsSoundWorld pseudokey_of start → IsRun pseudokey_of start moments end
    → (copies : HasCurrentCopies pseudokey_of start (turns_of moments) end) × (copies.moments ≡ moments)
