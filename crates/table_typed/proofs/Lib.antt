pub mod Changes
pub mod Found
pub mod Put
pub mod Stored
pub mod Updated
