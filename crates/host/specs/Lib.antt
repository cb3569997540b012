pub mod Host
pub mod HostCalls
pub mod Served
pub mod HostDrafts
pub mod DraftCalls
