pub mod Calls
pub mod ErrorText
pub mod Faults
pub mod Stored
