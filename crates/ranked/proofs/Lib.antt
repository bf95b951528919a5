pub mod Chain
pub mod Entry
pub mod Order
