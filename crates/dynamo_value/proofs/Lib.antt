mod Copied
mod Equal
pub mod Members
pub mod Reordered
pub mod Sorted
pub mod Steps
pub mod Views
