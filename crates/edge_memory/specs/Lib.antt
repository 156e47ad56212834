pub mod Held
pub mod StoreView
pub mod HeldLaws
pub mod CallPlan
pub mod Crashing
pub mod MemDisk
