pub mod Pages
pub mod Segments
pub mod RoundTrip
