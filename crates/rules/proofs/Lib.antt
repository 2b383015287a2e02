pub mod Bits
pub mod Clashes
