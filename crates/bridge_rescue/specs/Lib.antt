pub mod Layout
pub mod Faults
pub mod Slots
pub mod Lines
pub mod Looking
pub mod RescueRun
pub mod Gaps
pub mod Held
