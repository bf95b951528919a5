pub mod Agreement
pub mod Through
