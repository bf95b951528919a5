pub mod Back
pub mod Parts
pub mod Runs
pub mod View
