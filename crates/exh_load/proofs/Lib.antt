-- of put: the home that a pair is put into, as a directory names it
pub mod ToldHomes
-- of history, loader and what puts pairs: counts of failures
pub mod Counted
-- of loader: a list made item by item, the wards of a new file, a put into one of them, and those of an opened file
pub mod Items
pub mod FreshWards
pub mod PutIn
pub mod Over
-- of load_text and number_line: exits, lines, and how many records there are
pub mod Exits
pub mod Lines
pub mod Records
-- of load_source: what is printed of a load, and of the lines of a new file
pub mod Loads
pub mod Pairs
-- of laws: the wards' maps as one
pub mod OneMap
-- of line_source and long_load: the lines of a text, of which a beginning is taken
pub mod TextLines
pub mod LongLoads
