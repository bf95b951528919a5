pub mod Reread
pub mod Looks
pub mod Segments
pub mod Tails
pub mod Directory
pub mod Assembled
pub mod Scans
