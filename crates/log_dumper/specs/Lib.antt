pub mod Directory
pub mod Stored
pub mod Says
pub mod Ordered
pub mod Loads
