-- Worlds that are equal but for the wards' counts of page faults, and a run without some of the turns that were refused.
use Rattle.std.specs.Prelude.{◌≡◌, ◌⊎◌, ℕ, List, [], ◌∷◌, map, Result, IsErr}
use Rattle.exh_ward.specs.WardState.{WardState}
use Rattle.exh_world.specs.WorldRun.{Moment, IsRun}
use Rattle.exh_world.specs.Step.{Step}
use Rattle.exh_world.specs.StepFunction.{result_of, world_after}
use Rattle.exh_world.specs.Taken.{turns_of}
use Rattle.exh_world.specs.World.{WorldState}
use Rattle.exh_walk.specs.declared.event.Event.{Event}
use Rattle.exh_walk.specs.declared.outcome.Outcome.{Outcome}
use Rattle.exh_walk.specs.declared.step_fault.StepFault.{StepFault}
use Rattle.exh_walk.specs.declared.turn.Turn.{Turn}

-- the world, each of whose wards has counted no page fault
abbrev pub uncounted : {K : Type 0} → WorldState K → WorldState K
uncounted {K} world = record world { wards = map (λ (ward : WardState K). record ward { failures = 0 }) world.wards }

-- the worlds are equal but for the wards' counts of page faults
abbrev pub AreAlike : {K : Type 0} → WorldState K → WorldState K → Type 0
AreAlike one other = uncounted one ≡ uncounted other

-- a step of a world is one of each world that is alike, and leaves worlds that are alike
abbrev pub StepsGoAlike : {K : Type 0} → (K → List ℕ → ℕ) → Type 0
StepsGoAlike {K} pseudokey_of = (old : WorldState K) (event : Event) (result : Result Outcome StepFault) (new : WorldState K) → Step pseudokey_of old event result new
    → (twin : WorldState K) → AreAlike old twin → (left : WorldState K) × Step pseudokey_of twin event result left × AreAlike new left

-- and the step as a function comes to the same over them
abbrev pub StepFunctionGoesAlike : {K : Type 0} → (K → List ℕ → ℕ) → Type 0
StepFunctionGoesAlike {K} pseudokey_of = (one other : WorldState K) → AreAlike one other → (event : Event)
    → (result_of pseudokey_of one event ≡ result_of pseudokey_of other event) × AreAlike (world_after pseudokey_of one event) (world_after pseudokey_of other event)

-- ---- what is left out

-- others stand for items, one for one and in their order, but for some that may be left out
module _ {A B : Type 0} (MayGo : A → Type 0) (StandsFor : B → A → Type 0) where
  abbrev pub AreOthers : List A → List B → Type 0
  AreOthers [] others = others ≡ []
  AreOthers (item ∷ items) others =
      (MayGo item × AreOthers items others)
      ⊎ ((first : B) × (rest : List B) × (others ≡ first ∷ rest) × StandsFor first item × AreOthers items rest)

-- the turns without some that were refused, for whatever reason: for one that held, for want of memory, or for a page out of reach
abbrev pub AreOtherTurns : List Turn → List Turn → Type 0
AreOtherTurns = AreOthers (λ turn. IsErr turn.result) (λ other turn. other ≡ turn)

-- the same turn, between worlds that are alike
pub record IsSameMoment {K : Type 0} (other moment : Moment K) : Type 0 where
  pub turn : other.turn ≡ moment.turn
  pub before : AreAlike moment.before other.before
  pub after : AreAlike moment.after other.after

-- the moments without some whose turns were refused, each between worlds that are alike
abbrev pub AreOtherMoments : {K : Type 0} → List (Moment K) → List (Moment K) → Type 0
AreOtherMoments {K} = AreOthers (λ (moment : Moment K). IsErr moment.turn.result) IsSameMoment

-- ---- runs without them

-- the other turns are a run, too, of the others of a run's moments, and end in a world that is alike
pub record OthersRun {K : Type 0} (pseudokey_of : K → List ℕ → ℕ) (moments : List (Moment K)) (end twin : WorldState K) (others : List Turn) : Type 0 where
  pub left : List (Moment K)
  pub last : WorldState K
  pub turns_are : turns_of left ≡ others
  pub run : IsRun pseudokey_of twin left last
  pub same : AreOtherMoments moments left
  pub alike : AreAlike end last

-- The turns are a run between the worlds. Without any of those that were refused the others are a run, too, from the same world and from each that is alike.
pub record HasOthers {K : Type 0} (pseudokey_of : K → List ℕ → ℕ) (start : WorldState K) (turns : List Turn) (end : WorldState K) : Type 0 where
  pub moments : List (Moment K)
  pub turns_are : turns_of moments ≡ turns
  pub run : IsRun pseudokey_of start moments end
  pub others : (others : List Turn) → AreOtherTurns turns others → (twin : WorldState K) → AreAlike start twin → OthersRun pseudokey_of moments end twin others

-- of every run, over its own moments
abbrev pub RefusedTurnsLeaveTheOthers : {K : Type 0} → (K → List ℕ → ℕ) → Type 0
RefusedTurnsLeaveTheOthers {K} pseudokey_of = (start : WorldState K) (moments : List (Moment K)) (end : WorldState K) → IsRun pseudokey_of start moments end
    → (has : HasOthers pseudokey_of start (turns_of moments) end) × (has.moments ≡ moments)
