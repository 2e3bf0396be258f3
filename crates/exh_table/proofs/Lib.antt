-- of what a table holds: get, put_greater, put_back and entries
pub mod Seen
-- of its order and join: at_most and join_in
pub mod Compared
-- of its leaves and depth: add_leaves and depth_below
pub mod Children
-- of changes_keep_names
pub mod ChangedNames
