-- of new_worlds_are_sound, `new` and `from_wards`
pub mod FreshWorld
pub mod NewWards
pub mod WorldOfWards
-- of most_failures
pub mod MostFailures
-- of into_wards
pub mod MadeAnew
-- of steps_keep_worlds_sound
pub mod TablesKept
pub mod WalksBelow
pub mod SoundKept
pub mod BegunSound
pub mod HoppedSound
pub mod ChangedSound
pub mod ToldSound
pub mod StepSound
-- of the tables of a world, which tell truly, and of the wards' steps
pub mod NamedRequests
pub mod WardTurns
pub mod GoingOn
pub mod NoticeEntries
pub mod ToldTruly
pub mod GivenWards
-- of runs_carry_the_headline: one map, one step, a run
pub mod OneMap
pub mod WorldMaps
pub mod Known
pub mod Named
pub mod StepFacts
pub mod RunFacts
pub mod Runs
pub mod HeadlineOf
-- of moves_are_counted and current_copies_look_once
pub mod BoundedAnswers
pub mod CountedAnswers
pub mod BegunNear
pub mod TakersCurrent
pub mod CountedParts
-- of steps_are_computed and steps_have_outcomes
pub mod StepFunction
pub mod StepOutcome
pub mod PagesReached
-- of steps_go_alike and refused_turns_leave_the_others
pub mod AlikeSteps
pub mod AlikeFunction
pub mod OthersRun
-- of requests in flight, in their slots
pub mod SlotLemmas
-- of each event's method: the world as its struct holds it, and shows it
pub mod InsideWorld
pub mod WardsLeft
pub mod FailureCounted
pub mod FaultsCounted
pub mod WardChanges
pub mod CopySteps
pub mod BeginSteps
pub mod HopSteps
pub mod CopiesTold
pub mod RunWords
