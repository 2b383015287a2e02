pub mod Calls
pub mod Lines
pub mod Steps
pub mod Walk
pub mod Words
