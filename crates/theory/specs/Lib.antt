pub mod Consistent
pub mod Asked
