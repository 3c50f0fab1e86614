pub mod Appends
pub mod Decoding
pub mod Reading
pub mod Spelling
