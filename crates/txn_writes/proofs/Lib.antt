pub mod Entries
pub mod Noted
pub mod Placed
pub mod Records
pub mod Rows
pub mod Nexts
pub mod Whole
