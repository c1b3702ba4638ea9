pub mod GaugeShape
