pub mod Noted
pub mod Opened
pub mod Texts
pub mod Watched
