-- a new ward is sound
pub mod NewWardsAreSound
-- the wards of a new file
pub mod WardsOfNewFile
-- a ward of given pages is sound
pub mod PagesRead
pub mod MadeOfPages
-- the notices above an index
pub mod NoticesAbove
-- hops: a call's home answers what the map machine does, and its pages stay legal
pub mod StoredPages
pub mod RecordCount
pub mod HomeReplies
pub mod AnswersKeepLegal
-- hops: what a call meets is what its hop comes to, and what an answer leaves
pub mod SightsAreHops
pub mod AnswersAreLeft
pub mod HopsAreComputed
-- each step keeps the ward sound, and what a ward keeps of its fields
pub mod StepsKeepSound
-- what the exits of a step return
pub mod Exits
-- splits and merges: a change of pages is told by its notice
pub mod ChangesAreTold
-- splits
pub mod HalvesOfPages
pub mod SplitsAreSteps
-- merges
pub mod Heads
pub mod MergesAreSteps
pub mod BuddySums
-- distances: the first live page, and the count from there
pub mod FirstSteps
-- splits and merges as functions
pub mod PlacedPages
pub mod SplitsAreComputed
pub mod MergesAreComputed
pub mod SplitsHaveOutcomes
pub mod MergesHaveOutcomes
-- a page of a legal ward has few records
mod FewRecords
