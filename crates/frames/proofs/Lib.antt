pub mod Numbers
pub mod Fields
pub mod Buffers
pub mod Runs
pub mod Shapes
pub mod Judging
