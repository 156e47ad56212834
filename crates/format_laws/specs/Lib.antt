pub mod Changes
pub mod Marked
pub mod Place
pub mod Standing
