pub mod Held
pub mod HeldKeys
pub mod Lent
pub mod Pages
pub mod Puts
pub mod Scans
