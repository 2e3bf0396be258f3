-- Laws of worlds.
use Rattle.std.specs.Prelude.{◌≡◌, ◌≢◌, ⊤, ◌⊎◌, ℕ, ◌^◌, ◌<◌, ◌≤◌, List, length, map, slice_get, Some, All, Result, Ok, Err}
use Rattle.exh_ward.specs.WardState.{WardState, IsSoundWard}
use Rattle.exh_prefix.specs.declared.prefix.TheConstants.{WARD_BITS_LIMIT}
use Rattle.exh_ward.specs.declared.ward_fault.WardFault.TheVariants.{Memory, Page}
use Rattle.exh_world.specs.Headline.{IsHeadline}
use Rattle.exh_world.specs.NewWorld.{AreWardsFor, new_world, world_of_wards}
use Rattle.exh_world.specs.WorldRun.{Moment, IsRun}
use Rattle.exh_world.specs.Sound.{IsSoundWorld}
use Rattle.exh_world.specs.Step.{CountsFailure, ReachesInto, Step}
use Rattle.exh_world.specs.StepFunction.{result_of, world_after}
use Rattle.exh_world.specs.World.{WorldState}
use Rattle.exh_page.specs.declared.config.Config.{Config}
use Rattle.exh_walk.specs.declared.event.Event.{Event}
use Rattle.exh_walk.specs.declared.outcome.Outcome.{Outcome}
use Rattle.exh_walk.specs.declared.outcome.Outcome.TheVariants.{Changed}
use Rattle.exh_walk.specs.declared.step_fault.StepFault.{StepFault}
use Rattle.exh_walk.specs.declared.step_fault.StepFault.TheVariants.{Ward}

-- each ward of the world is sound, which is what a ward's own calls promise
abbrev pub AreWardsSound : {K : Type 0} → (K → List ℕ → ℕ) → WorldState K → Type 0
AreWardsSound {K} pseudokey_of world = (number : ℕ) (ward : WardState K) → slice_get world.wards number ≡ Some ward → IsSoundWard pseudokey_of ward

-- a step leaves a sound world sound, as far as its wards are
abbrev pub StepsKeepWorldsSound : {K : Type 0} → (K → List ℕ → ℕ) → Type 0
StepsKeepWorldsSound {K} pseudokey_of = (old : WorldState K) (event : Event) (result : Result Outcome StepFault) (new : WorldState K)
    → IsSoundWorld pseudokey_of old → Step pseudokey_of old event result new → AreWardsSound pseudokey_of new → IsSoundWorld pseudokey_of new

-- how often each ward couldn't reach a page
abbrev pub failures_in : {K : Type 0} → WorldState K → List ℕ
failures_in world = map (λ ward. ward.failures) world.wards

-- a page out of reach is answered only where the ward that the event reaches into counts it, and no other answer comes with another count
pub record IsCounted {K : Type 0} (pseudokey_of : K → List ℕ → ℕ) (old : WorldState K) (event : Event) (result : Result Outcome StepFault) (new : WorldState K) : Type 0 where
  pub real : result ≡ Err (Ward Page) → (number : ℕ) × ReachesInto pseudokey_of old event number × CountsFailure old number new
  pub only : result ≢ Err (Ward Page) → failures_in new ≡ failures_in old

abbrev pub PageFaultsAreCounted : {K : Type 0} → (K → List ℕ → ℕ) → Type 0
PageFaultsAreCounted {K} pseudokey_of = (old : WorldState K) (event : Event) (result : Result Outcome StepFault) (new : WorldState K) → Step pseudokey_of old event result new → IsCounted pseudokey_of old event result new

-- a notice that the step issued has a version of 32 bits
abbrev pub HasVersionOfWord : Result Outcome StepFault → Type 0
HasVersionOfWord (Ok (Changed notice)) = notice.number < 2 ^ 32
HasVersionOfWord result = ⊤

-- the step was refused for want of memory, or for a page out of reach, which its ward has counted, or it is what the function computes
abbrev pub IsComputed : {K : Type 0} → (K → List ℕ → ℕ) → WorldState K → Event → Result Outcome StepFault → WorldState K → Type 0
IsComputed pseudokey_of old event result new =
    ((result ≡ Err (Ward Memory)) × (new ≡ old))
    ⊎ ((result ≡ Err (Ward Page)) × (number : ℕ) × ReachesInto pseudokey_of old event number × CountsFailure old number new)
    ⊎ ((result ≡ result_of pseudokey_of old event) × (new ≡ world_after pseudokey_of old event))

abbrev pub StepsAreComputed : {K : Type 0} → (K → List ℕ → ℕ) → Type 0
StepsAreComputed {K} pseudokey_of = (old : WorldState K) (event : Event) (result : Result Outcome StepFault) (new : WorldState K)
    → IsSoundWorld pseudokey_of old → HasVersionOfWord result → Step pseudokey_of old event result new → IsComputed pseudokey_of old event result new

-- and what the function computes is a step, so each event comes to an outcome or a refusal
abbrev pub StepsHaveOutcomes : {K : Type 0} → (K → List ℕ → ℕ) → Type 0
StepsHaveOutcomes {K} pseudokey_of = (old : WorldState K) (event : Event) → IsSoundWorld pseudokey_of old → Step pseudokey_of old event (result_of pseudokey_of old event) (world_after pseudokey_of old event)

-- every run from a sound world, over wards that stay sound, carries the headline, over its own moments
abbrev pub RunsCarryTheHeadline : {K : Type 0} → (K → List ℕ → ℕ) → Type 0
RunsCarryTheHeadline {K} pseudokey_of = (start : WorldState K) (moments : List (Moment K)) (end : WorldState K)
    → IsSoundWorld pseudokey_of start → All (λ (moment : Moment K). AreWardsSound pseudokey_of moment.after) moments → IsRun pseudokey_of start moments end
    → (headline : IsHeadline pseudokey_of start (map (λ moment. moment.turn) moments) end) × (headline.moments ≡ moments)

-- the world of a new file is sound
abbrev pub NewWorldsAreSound : {K : Type 0} → (K → List ℕ → ℕ) → Type 0
NewWorldsAreSound {K} pseudokey_of = (config : Config K) → config.ward_bits ≤ WARD_BITS_LIMIT → IsSoundWorld pseudokey_of (new_world config)

-- and that of sound wards, one for each number
abbrev pub WorldsOfWardsAreSound : {K : Type 0} → (K → List ℕ → ℕ) → Type 0
WorldsOfWardsAreSound {K} pseudokey_of = (config : Config K) (wards : List (WardState K)) → config.ward_bits ≤ WARD_BITS_LIMIT → length wards ≡ 2 ^ config.ward_bits → AreWardsFor config wards
    → ((number : ℕ) (ward : WardState K) → slice_get wards number ≡ Some ward → IsSoundWard pseudokey_of ward) → IsSoundWorld pseudokey_of (world_of_wards config wards)
