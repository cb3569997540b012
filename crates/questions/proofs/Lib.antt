pub mod Reading
pub mod Stepping
pub mod Ranges
pub mod Putting
pub mod Asking
