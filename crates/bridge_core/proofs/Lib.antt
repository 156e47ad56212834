pub mod OneCommand
pub mod Running
pub mod Headline
pub mod Alone
pub mod Leave
