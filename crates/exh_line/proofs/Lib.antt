-- of parse_line
pub mod EmptyWords
-- of printed_answers_are_one
pub mod ToldLemmas
