mod Common
pub mod Agree
mod Appended
pub mod AttributeBack
mod AttributeRows
pub mod Bytes
pub mod Differ
pub mod Each
pub mod EveryValue
pub mod Floats
mod Followed
mod InText
pub mod JsonBack
pub mod Messages
pub mod Objects
mod PlainRows
pub mod PlainWritten
pub mod ReadBack
pub mod Reading
mod Rest
pub mod Results
mod Rows
mod Spelled
mod Stored
pub mod TellsPlain
pub mod TellsSome
pub mod Texts
pub mod Told
mod Unstored
pub mod ViewOrder
mod Weight
pub mod WithoutFloats
pub mod Written
