-- of the index of places
pub mod FirstPlaces
-- of cells_of_tables
pub mod Made
-- of legal_wards_have_places
pub mod Filtered
pub mod LegalPlaces
-- of orders
pub mod Orders
-- of files that are written place by place
pub mod Groups
-- of legal_wards_give_files
pub mod WardFiles
-- of told_tables_have_places
pub mod ToldPlaces
-- of files_of_wards_are_placed
pub mod PlacedFiles
