mod Changed
mod Each
