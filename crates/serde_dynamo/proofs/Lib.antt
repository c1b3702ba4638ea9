pub mod ItemBack
pub mod MapsOfItems
pub mod ReadBack
pub mod SamplesEqual
pub mod Rows
pub mod ShapeRows
