pub mod Machines
pub mod Feet
pub mod Buffers
pub mod Evaluators
pub mod Buffering
pub mod Footing
pub mod Evaluating
