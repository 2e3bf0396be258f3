-- walks along bits, and where they stop: place, point_below
pub mod Walks
pub mod Below
-- how many pointers are as deep as the array
pub mod Counts
-- of new: the array of no table
pub mod Start
-- of point: pointers written one by one
pub mod Pieces
pub mod Ranges
-- of deepen, halve and flatten
pub mod Deeper
pub mod Halved
pub mod Flat
-- of place, goes_on_over, update and depth
pub mod Places
pub mod Depth
pub mod Updates
-- of tables that are joined and take entries
pub mod Joined
-- of tables that are kept by what they have beyond others
pub mod Unpacked
-- of places that are noted, and forgotten
pub mod KnownPlaces
-- of copies, by what is known of them
pub mod HeldCopies
pub mod KeptCopies
