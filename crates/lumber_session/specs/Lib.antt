pub mod Staged
pub mod Windows
pub mod Batches
pub mod Counting
pub mod Acts
pub mod Lent
