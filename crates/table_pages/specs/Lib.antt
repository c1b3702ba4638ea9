pub mod Failure
pub mod Memory
