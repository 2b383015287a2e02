pub mod History
pub mod Graph
pub mod Orders
pub mod Leaders
pub mod Reads
pub mod Theorems
