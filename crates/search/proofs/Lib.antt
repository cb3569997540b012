pub mod Ends
pub mod Actions
pub mod Deciding
pub mod Keeping
pub mod Passing
pub mod Trying
pub mod Updates
