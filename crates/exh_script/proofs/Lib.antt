-- of replies_are_one_maps, replies_follow_any_start, lines_keep_settings
pub mod NewFile
pub mod RequestLemmas
pub mod Stepped
pub mod LineMoments
pub mod KeptWorlds
pub mod KeptCounts
pub mod KeptSettings
pub mod WardSteps
pub mod Journals
pub mod BegunRequests
pub mod Strays
pub mod ReplyLaw
pub mod StartedReplies
-- of lines_go_alike and refused_lines_leave_the_others
pub mod AlikeLines
pub mod OtherLines
-- of push_begun
pub mod CallsRead
-- of the text of a script: respond, serve_from
pub mod Responded
pub mod ServedLemmas
-- of begin, replies_follow_the_file
pub mod OpenedLemmas
-- of respond
pub mod StartLemmas
