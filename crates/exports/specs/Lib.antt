pub mod Changes
pub mod Checked
pub mod ErrorText
pub mod FindingText
pub mod Grouped
pub mod Items
pub mod Lines
pub mod Requests
