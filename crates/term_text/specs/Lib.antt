pub mod Appends
pub mod Grammar
pub mod Places
pub mod Printing
pub mod Reading
pub mod Viable
