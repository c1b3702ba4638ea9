pub mod Found
pub mod PlaceText
pub mod Placed
