pub mod Counts
pub mod Formed
pub mod OfFile
pub mod EditPlaces
pub mod Rooms
pub mod Homes
pub mod SplitSteps
pub mod MergeSteps
pub mod LeafLemmas
pub mod Settling
pub mod Answered
pub mod Left
pub mod Outcomes
mod StepsCounts
mod WardPlaces
mod LegalWards
mod ChangedCells
mod ChangedWard
mod Slots
mod TwoPages
mod InPlace
mod WardSplits
mod Revived
mod Fresh
mod Merges
mod RecordCount
mod HomeReplies
mod WardParts
mod HomeAnswers
mod Apart
-- of edits that are found by their places
pub mod Elements
pub mod Found
pub mod Turns
-- of the blocks with edits
pub mod Shown
pub mod Made
-- of calls
pub mod Machine
pub mod Steps
pub mod Last
