-- What only this crate's own calls cite. What the crate promises stands beside this folder.
pub mod Rows
pub mod Pages
pub mod Steps
