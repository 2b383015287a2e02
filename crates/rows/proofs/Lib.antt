pub mod Filled
pub mod Settling
