-- The moves of the requests that a run answers, and their bound.
use Rattle.std.specs.Prelude.{◌≡◌, ℕ, ◌+◌, ◌-◌, ◌≤◌, List, length, map, All}
use Rattle.exh_world.specs.WorldLaws.{AreWardsSound}
use Rattle.exh_world.specs.WorldRun.{Moment, IsRun, Answered, answered_in}
use Rattle.exh_world.specs.Sound.{IsSoundWorld}
use Rattle.exh_world.specs.World.{WorldState}
use Rattle.exh_walk.specs.declared.turn.Turn.{Turn}

-- an answer tells the moves that its request had made, and as their bound the request's distance when begun with the changes in its ward since
pub record IsBounded (answered : Answered) : Type 0 where
  pub moves : answered.moves ≡ answered.request.moves
  pub bound : answered.bound ≡ answered.request.distance + (length answered.changes - answered.request.changes)
  pub within : answered.moves ≤ answered.bound

-- of every run from a sound world, over wards that stay sound
abbrev pub AnswersAreBounded : {K : Type 0} → (K → List ℕ → ℕ) → Type 0
AnswersAreBounded {K} pseudokey_of = (start : WorldState K) (moments : List (Moment K)) (end : WorldState K)
    → IsSoundWorld pseudokey_of start → All (λ (moment : Moment K). AreWardsSound pseudokey_of moment.after) moments → IsRun pseudokey_of start moments end → All IsBounded (answered_in moments)

-- the turns are a run between the worlds, each answer of which is bounded
pub record HasBoundedAnswers {K : Type 0} (pseudokey_of : K → List ℕ → ℕ) (start : WorldState K) (turns : List Turn) (end : WorldState K) : Type 0 where
  pub moments : List (Moment K)
  pub turns_are : map (λ moment. moment.turn) moments ≡ turns
  pub run : IsRun pseudokey_of start moments end
  pub bounded : All IsBounded (answered_in moments)
