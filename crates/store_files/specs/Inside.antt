-- What only this crate's own calls cite. What the crate promises stands beside this folder.
pub mod Found
pub mod Loading
pub mod Reading
