-- of bytes that are read one behind the other
pub mod Steps
pub mod Cases
-- of what is written, which is read again
pub mod Again
pub mod Cuts
pub mod JsonCases
pub mod JsonText
pub mod JsonAgain
pub mod CsvAgain
pub mod Marks
pub mod Records
-- of what is written, which is read again and ends where it is written to
pub mod CsvReadAgain
pub mod Whole
-- of fields as they are read
pub mod Taking
