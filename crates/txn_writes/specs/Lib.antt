pub mod Seen
pub mod Places
pub mod Replays
pub mod Walks
