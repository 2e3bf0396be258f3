pub mod CommandFault
pub mod Words
pub mod Job
pub mod Parser
pub mod Program
