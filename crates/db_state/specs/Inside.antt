-- What only this crate's own calls cite. What the crate promises stands beside this folder.
pub mod Parts
pub mod Sources
pub mod Slots
pub mod Taking
