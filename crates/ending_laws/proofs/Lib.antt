pub mod Desk
pub mod Endings
pub mod Relp
pub mod Lumber
pub mod Hec
pub mod Ordinals
pub mod Session
pub mod Drains
