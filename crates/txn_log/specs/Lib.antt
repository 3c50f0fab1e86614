pub mod Commits
pub mod Logs
pub mod Opens
pub mod TwoLogs
