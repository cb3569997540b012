pub mod Put
pub mod Table
pub mod Verdicts
