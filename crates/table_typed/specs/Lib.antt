pub mod ErrorText
pub mod Stored
pub mod Updated
pub mod Written
