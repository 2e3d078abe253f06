pub mod Steps
pub mod Replay
pub mod Replayed
