-- Requests that begin at a current copy.
use Rattle.std.specs.Prelude.{◌≡◌, ◌⊎◌, ℕ, Bool, List, length, slice_get, Some, Ok}
use Rattle.std.specs.FinMap.{get}
use Rattle.exh_prefix.specs.Leading.{ward_prefix}
use Rattle.exh_prefix.specs.Prefix.{IsFront}
use Rattle.exh_table.specs.Table.{TableMap}
use Rattle.exh_calls.specs.declared.call.Call.{Call}
use Rattle.exh_calls.specs.declared.reply.Reply.{Reply}
use Rattle.exh_ward.specs.WardState.{WardState}
use Rattle.exh_world.specs.InFlight.{request_named}
use Rattle.exh_world.specs.WorldRun.{Moment, IsRun}
use Rattle.exh_world.specs.Sound.{IsSoundWorld}
use Rattle.exh_world.specs.Step.{Step, pseudokey_in, request_begun}
use Rattle.exh_world.specs.World.{WorldState, changes_in, numbered}
use Rattle.exh_walk.specs.declared.event.Event.TheVariants.{Begin, Hop as HopOn}
use Rattle.exh_walk.specs.declared.outcome.Outcome.TheVariants.{Begun}
use Rattle.exh_walk.specs.EventProgress.{Progress, Done, MustSplit, hop_outcome}
use Rattle.exh_world.specs.declared.request.Request.{Request}
use Rattle.exh_world.specs.Counted.{AllLeaveOpen}

-- a table that is current in a ward: at each prefix of the ward it has what the ward's own table has
pub record IsCurrentIn {K : Type 0} (world : WorldState K) (number : ℕ) (table : TableMap) : Type 0 where
  pub ward : WardState K
  pub there : slice_get world.wards number ≡ Some ward
  pub same : (prefix : List Bool) → IsFront (ward_prefix world.ward_bits number) prefix → get table prefix ≡ get ward.table prefix

-- The hop looks at the page at which the request was begun, since the request is still as it was then. It answers, after no move, and none is what the
-- request may make; or it says that the page must split.
pub record LooksOnce {K : Type 0} (begun : Request) (name : ℕ) (world : WorldState K) (hop : Progress) : Type 0 where
  pub stands : request_named name world.in_flight ≡ Some begun
  pub ends : ((reply : Reply) × (hop ≡ Done reply 0 0)) ⊎ (hop ≡ MustSplit)

-- of a request that began at a copy that is current in its ward, each hop before the ward changes
abbrev pub CurrentCopiesLookOnce : {K : Type 0} → (K → List ℕ → ℕ) → Type 0
CurrentCopiesLookOnce {K} pseudokey_of = (old now : WorldState K) (name client copy : ℕ) (call : Call) (ward page : ℕ) → IsSoundWorld pseudokey_of old
    → Step pseudokey_of old (Begin name client copy call) (Ok (Begun ward page)) now
    → (table : TableMap) → numbered old.copies copy ≡ Some table → IsCurrentIn old ward table
    → (moments : List (Moment K)) (later : WorldState K) → IsRun pseudokey_of now moments later → AllLeaveOpen name moments → changes_in later ward ≡ changes_in now ward
    → (number : ℕ) (hop : Progress) (after : WorldState K) → Step pseudokey_of later (HopOn name) (Ok (hop_outcome number hop)) after
    → LooksOnce (request_begun client call (pseudokey_in pseudokey_of old call) ward page 0 (length (changes_in old ward))) name later hop

-- of a request that begins at such a copy the distance is 0, whether it ever hops or not
abbrev pub CurrentCopiesBeginHome : {K : Type 0} → (K → List ℕ → ℕ) → Type 0
CurrentCopiesBeginHome {K} pseudokey_of = (old now : WorldState K) (name client copy : ℕ) (call : Call) (ward page : ℕ) → IsSoundWorld pseudokey_of old
    → Step pseudokey_of old (Begin name client copy call) (Ok (Begun ward page)) now
    → (table : TableMap) → numbered old.copies copy ≡ Some table → IsCurrentIn old ward table
    → request_named name now.in_flight ≡ Some (request_begun client call (pseudokey_in pseudokey_of old call) ward page 0 (length (changes_in old ward)))
