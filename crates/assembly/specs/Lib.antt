pub mod Spelling
pub mod Names
pub mod Kinds
pub mod Numbers
pub mod Intents
