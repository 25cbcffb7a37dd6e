pub mod Sent
pub mod Status
pub mod Asked
pub mod Ends
pub mod Unopened
pub mod Unanswered
pub mod Answered
