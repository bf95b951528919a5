pub mod Recover
pub mod SegmentPages
pub mod TailFrames
pub mod Described
pub mod Gather
pub mod ReadBack
