pub use Rattle.exh_text.specs.Numbers
-- formats, how their bytes are spelled, the lines that are written, and what lines read as
pub mod Formats
pub mod Bytes
pub mod Json
pub mod Lines
pub mod Parts
pub mod Reading
pub mod Header
pub mod Records
pub mod Spelled
pub mod Reads
pub mod Laws
-- where in a record a byte stands, a record's fields, how they are written, and what holds of them
pub mod Places
pub mod Fields
pub mod Rows
pub mod CsvReads
pub mod CsvLaws
