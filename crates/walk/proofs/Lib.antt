pub mod Pairing
pub mod Rightly
pub mod Plainly
