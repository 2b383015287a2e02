pub mod Ancestors
pub mod Nodes
pub mod ProgramTree
pub mod Chains
pub mod Formation
pub mod Props
