pub mod Reading
pub mod Digits
pub mod ReadBack
