pub mod Numbers
pub mod Texts
pub mod Slots
pub mod Rows
