-- of splits_keep_legal
pub mod SplitLinks
pub mod SplitLegal
pub mod SplitFit
pub mod SplitGrown
-- of merges_keep_legal
pub mod MergeLinks
pub mod MergeLegal
pub mod MergeFit
pub mod MergeGrown
-- of both: the table and its index with the notice
pub mod TableSteps
-- of live_pages_split
pub mod SplitReady
-- of walks_name_homes
pub mod Walks
-- of right_links_lead_on and targets_lead_on
pub mod RightLinks
-- of left_children_link_to_siblings and live_left_children_merge
pub mod Siblings
-- of lone_pages_are_legal
pub mod Lone
-- of pages_are_few
pub mod PageCount
-- of entries_are_few
pub mod EntryCount
-- of fitting_tables_begin_wards
pub mod Begun
-- the index of pages by low bounds
pub mod IndexSeen
pub mod Bare
pub mod Passed
pub mod Index
pub mod Tiles
pub mod LeafTests
pub mod Next
pub mod Each
pub mod Heads
pub mod Fits
pub mod Entries
pub mod Firsts
pub mod Whole
pub mod OwnPrefix
pub mod Room
