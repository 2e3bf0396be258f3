pub mod Grammar
pub mod LineStart
pub mod CallWords
pub mod LineRefusal
pub mod LineAnswer
pub mod Shown
pub mod RefusalText
