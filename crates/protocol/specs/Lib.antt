pub mod Meanings
pub mod Tallies
pub mod Writers
