pub mod Did
pub mod Keeps
pub mod Opens
