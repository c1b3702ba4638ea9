mod AttributeRows
pub mod Attributes
pub mod Chars
pub mod Decimals
pub mod Each
pub mod Fields
pub mod FloatNumbers
pub mod Floats
pub mod Ignored
pub mod Integers
pub mod Json
mod JsonRows
pub mod JsonSteps
pub mod Meets
mod NumberRows
pub mod Numbers
pub mod Pairs
pub mod Promises
pub mod Reading
pub mod Rows
pub mod SetMembers
