pub mod Lending
pub mod Ranges
