pub mod Characters
pub mod Single
pub mod Views
