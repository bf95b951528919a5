pub mod ReadBack
pub mod Places
pub mod Loops
