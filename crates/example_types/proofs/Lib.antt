pub mod PointRows
pub mod GaugeFields
pub mod GaugeRows
