-- of walk: turns put together
pub mod Turns
-- of a ward's walk: the journal, and the way home
pub mod Journals
pub mod WaysHome
-- of runs_keep_wards_sound_and_one_map
pub mod StepOneMap
pub mod RunOneMap
-- of pages_stay and named_pages_stay
pub mod StepPlaces
pub mod PagesStay
pub mod NamedPagesStay
-- of gets_go_home and moves_come_nearer
pub mod GoHome
-- of one_distance
pub mod OneDistance
-- of distances_are_computed
pub mod DistancesComputed
-- of distance_laws
pub mod CountsWithin
pub mod ChangedDistances
pub mod RunDistances
pub mod WalkDistances
pub mod LaterNotices
pub mod CoveredPages
pub mod LateWalks
pub mod LateTables
