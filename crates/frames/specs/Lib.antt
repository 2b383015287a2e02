pub mod Codes
pub mod Digits
pub mod Kinds
pub mod Layout
pub mod Lines
pub mod Putting
pub mod Reading
