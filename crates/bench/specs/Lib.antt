pub mod Meanings
pub mod Reports
pub mod Benches
