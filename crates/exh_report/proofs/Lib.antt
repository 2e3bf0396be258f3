-- of lines that go to an output
pub mod Told
-- of the lines of a page
pub mod PageLines
-- of how much a file has
pub mod Sizes
-- of what is told of a finding
pub mod Reported
-- of the lines of pages, pairs and wards
pub mod Behind
