-- of the words of bytes and numbers
pub mod ByteWords
pub mod Hexadecimal
pub mod Numbers
-- of lines, words and parts
pub mod Cuts
-- of what is printed
pub mod Printed
pub mod Digits
pub mod PartLemmas
