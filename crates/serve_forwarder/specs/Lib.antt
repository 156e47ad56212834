pub mod Sessions
pub mod Looks
pub mod Released
pub mod Laws
pub mod Held
pub mod Reported
