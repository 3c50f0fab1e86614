pub mod Calls
pub mod Crash
pub mod Errors
pub mod Logs
pub mod Rests
