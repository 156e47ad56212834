pub mod Led
pub mod Beside
pub mod Laws
pub mod Sessions
pub mod Run
