pub mod Buffer
pub mod Copies
pub mod Window
