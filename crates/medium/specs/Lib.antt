pub mod Meaning
pub mod Outcome
pub mod Rules
pub mod Words
