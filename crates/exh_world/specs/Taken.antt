-- What copies have taken of a ward, and that one which has taken all of it is current there.
use Rattle.std.specs.Prelude.{◌≡◌, ℕ, List, length, map, slice_get, Some, Ok, Contains}
use Rattle.exh_notice.specs.declared.notice.Notice.{Notice}
use Rattle.exh_table.specs.Table.{TableMap, told_by}
use Rattle.exh_calls.specs.declared.call.Call.{Call}
use Rattle.exh_ward.specs.WardState.{WardState}
use Rattle.exh_world.specs.Counted.{AllLeaveOpen}
use Rattle.exh_world.specs.Current.{IsCurrentIn, LooksOnce}
use Rattle.exh_world.specs.Headline.{taken_by}
use Rattle.exh_world.specs.InFlight.{request_named}
use Rattle.exh_world.specs.WorldRun.{Moment, IsRun, Told}
use Rattle.exh_world.specs.Sound.{IsSoundWorld}
use Rattle.exh_world.specs.Step.{Step, pseudokey_in, request_begun}
use Rattle.exh_world.specs.World.{WorldState, changes_in, numbered}
use Rattle.exh_walk.specs.declared.event.Event.TheVariants.{Begin, Hop as HopOn}
use Rattle.exh_walk.specs.declared.outcome.Outcome.TheVariants.{Begun}
use Rattle.exh_walk.specs.EventProgress.{Progress, hop_outcome}
use Rattle.exh_walk.specs.declared.turn.Turn.{Turn}

-- over the turns the copy took each change of the ward: they are in the set of what it has taken
pub record HasTakenAll {K : Type 0} (start : WorldState K) (turns : List Turn) (world : WorldState K) (copy number : ℕ) : Type 0 where
  pub taken : Told
  pub is_taken : taken_by start turns copy taken
  pub each : (notice : Notice) → Contains (changes_in world number) notice → Contains taken (told_by notice)

abbrev pub turns_of : {K : Type 0} → List (Moment K) → List Turn
turns_of {K} moments = map (λ (moment : Moment K). moment.turn) moments

-- over every run from a sound world, such a copy is current in the ward
abbrev pub TakersAreCurrent : {K : Type 0} → (K → List ℕ → ℕ) → Type 0
TakersAreCurrent {K} pseudokey_of = (start : WorldState K) (moments : List (Moment K)) (end : WorldState K) → IsSoundWorld pseudokey_of start → IsRun pseudokey_of start moments end
    → (copy : ℕ) (table : TableMap) (number : ℕ) (ward : WardState K) → numbered end.copies copy ≡ Some table → slice_get end.wards number ≡ Some ward → HasTakenAll start (turns_of moments) end copy number
    → IsCurrentIn end number table

-- So a request that is begun then, at such a copy, looks at one page: each hop before the ward changes answers there, or says that the page must split.
abbrev pub TakersLookOnce : {K : Type 0} → (K → List ℕ → ℕ) → Type 0
TakersLookOnce {K} pseudokey_of = (start : WorldState K) (front : List (Moment K)) (old : WorldState K) → IsSoundWorld pseudokey_of start → IsRun pseudokey_of start front old
    → (name client copy : ℕ) (call : Call) (ward page : ℕ) (now : WorldState K) → Step pseudokey_of old (Begin name client copy call) (Ok (Begun ward page)) now → HasTakenAll start (turns_of front) old copy ward
    → (moments : List (Moment K)) (later : WorldState K) → IsRun pseudokey_of now moments later → AllLeaveOpen name moments → changes_in later ward ≡ changes_in now ward
    → (number : ℕ) (hop : Progress) (after : WorldState K) → Step pseudokey_of later (HopOn name) (Ok (hop_outcome number hop)) after
    → LooksOnce (request_begun client call (pseudokey_in pseudokey_of old call) ward page 0 (length (changes_in old ward))) name later hop

-- And its distance is 0, whether it ever hops or not.
abbrev pub TakersBeginHome : {K : Type 0} → (K → List ℕ → ℕ) → Type 0
TakersBeginHome {K} pseudokey_of = (start : WorldState K) (front : List (Moment K)) (old : WorldState K) → IsSoundWorld pseudokey_of start → IsRun pseudokey_of start front old
    → (name client copy : ℕ) (call : Call) (ward page : ℕ) (now : WorldState K) → Step pseudokey_of old (Begin name client copy call) (Ok (Begun ward page)) now → HasTakenAll start (turns_of front) old copy ward
    → request_named name now.in_flight ≡ Some (request_begun client call (pseudokey_in pseudokey_of old call) ward page 0 (length (changes_in old ward)))
