pub mod Waits
pub mod Rows
pub mod Stages
pub mod Turning
