pub mod Joining
pub mod Recovering
pub mod Runs
