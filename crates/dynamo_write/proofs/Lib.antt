pub mod Collected
mod Items
mod Listed
pub mod Orders
mod Pushed
mod Rows
pub mod Sets
