-- Both lays show what they write. The files below have the lemmas of that: nothing there needs belief.
pub mod Alone
pub mod Cards
pub mod Counted
pub mod Overwrites
pub mod Pages
pub mod Pigeons
pub mod Putting
pub mod Ticks
pub mod Trays
