pub mod Alone
pub mod Stages
pub mod FreeSlots
