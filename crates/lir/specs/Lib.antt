pub mod Limits
pub mod Refusals
pub mod Instructions
pub mod Mapping
pub mod Standings
