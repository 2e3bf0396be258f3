-- for the stamps of a file's first bytes
pub mod Numbers
