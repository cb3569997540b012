pub mod Promises
pub mod Solving
