pub mod Text
pub mod Width
pub mod Listing
pub mod Put
