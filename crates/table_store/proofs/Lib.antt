pub mod Called
mod Each
mod Finds
mod Kept
mod Keys
mod Ordered
mod Paged
mod Ran
pub mod Zipped
