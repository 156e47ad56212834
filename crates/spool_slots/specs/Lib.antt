pub mod Slot
pub mod Fault
pub mod Pen
pub mod Window
pub mod Groups
pub mod Scan
pub mod Mark
pub mod Part
