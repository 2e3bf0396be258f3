-- How far a request is from its answer when it begins.
use Rattle.std.specs.Prelude.{◌≡◌, ℕ, ◌+◌, ◌-◌, ◌≤◌, List, length, take, slice_get, Some, Ok}
use Rattle.exh_prefix.specs.declared.prefix.TheConstants.{LIMIT}
use Rattle.exh_table.specs.Table.{TableMap}
use Rattle.exh_calls.specs.declared.call.Call.{Call}
use Rattle.exh_ward.specs.WardState.{WardState, own_prefix}
use Rattle.exh_ward.specs.Distance.{IsDistance, live_pages}
use Rattle.exh_walk.specs.DistanceLaws.{IsTableWithin}
use Rattle.exh_world.specs.InFlight.{request_named}
use Rattle.exh_world.specs.Sound.{IsSoundWorld}
use Rattle.exh_world.specs.Step.{Step}
use Rattle.exh_world.specs.World.{WorldState, changes_in, numbered}
use Rattle.exh_walk.specs.declared.event.Event.TheVariants.{Begin}
use Rattle.exh_walk.specs.declared.outcome.Outcome.TheVariants.{Begun}
use Rattle.exh_world.specs.declared.request.Request.{Request}

-- what the request keeps is the distance of its page; it is few, and where the copy's table is in the ward that of the ward's start table and its first m
-- notices, it is at most the notices that the copy lacks; so it is where that table is there that of the world's start and the first m changes since
pub record IsBegunNear {K : Type 0} (world : WorldState K) (number : ℕ) (ward : WardState K) (table : TableMap) (request : Request) : Type 0 where
  pub is : IsDistance ward.pages request.page request.pseudokey request.distance
  pub few : request.distance ≤ LIMIT + live_pages ward.pages
  pub late : (m : ℕ) → m ≤ length ward.notices → IsTableWithin (own_prefix ward) ward.start (take m ward.notices) table → request.distance ≤ length ward.notices - m
  pub since : (m : ℕ) → m ≤ length (changes_in world number) → IsTableWithin (own_prefix ward) world.start (take m (changes_in world number)) table
      → request.distance ≤ length (changes_in world number) - m

-- of every request that begins in a sound world
abbrev pub RequestsBeginNear : {K : Type 0} → (K → List ℕ → ℕ) → Type 0
RequestsBeginNear {K} pseudokey_of = (old now : WorldState K) (name client copy : ℕ) (call : Call) (number page : ℕ) → IsSoundWorld pseudokey_of old
    → Step pseudokey_of old (Begin name client copy call) (Ok (Begun number page)) now
    → (request : Request) → request_named name now.in_flight ≡ Some request → (table : TableMap) → numbered old.copies copy ≡ Some table
    → (ward : WardState K) → slice_get old.wards number ≡ Some ward → IsBegunNear old number ward table request
