pub mod Exchanges
pub mod Leaders
pub mod Replies
pub mod Theorem
pub mod State
pub mod Conversation
pub mod Worked
