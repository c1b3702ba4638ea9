pub mod Change
pub mod Content
pub mod Places
