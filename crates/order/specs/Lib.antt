pub mod Order
pub mod Moved
pub mod Asking
pub mod Claims
pub mod Times
pub mod Rows
