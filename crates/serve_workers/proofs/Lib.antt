mod Joining
mod Linking
mod Following
pub mod Placing
