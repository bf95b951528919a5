pub mod Examples
pub mod Stories
