pub mod OpenLegal
-- of all that goes to a file
pub mod Lists
pub mod Going
pub mod Left
-- of the places of a file of version 3
pub mod Places
pub mod PlacedLegal
pub mod Counted
pub mod Counts
pub mod FewPlaces
pub mod StillPlaced
-- of the header
pub mod Legal
-- of opening what was written
pub mod Named
pub mod Reopened
-- of writing what was opened
pub mod Renumbered
pub mod Again
