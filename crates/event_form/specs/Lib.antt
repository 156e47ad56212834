pub mod Event
pub mod Entry
pub mod Reading
pub mod Head
pub mod Pairs
pub mod Turn
