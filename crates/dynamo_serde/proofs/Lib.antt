mod Fetching
mod Laying
pub mod Logged
pub mod Machine
pub mod Names
pub mod Places
pub mod Read
mod Sending
pub mod Sends
mod Steps
pub mod Told
pub mod Value
