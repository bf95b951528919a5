pub mod Card
pub mod Ends
pub mod Laws
pub mod Lent
pub mod Strike
pub mod Tray
