pub mod Told
pub mod Asked
pub mod Failed
pub mod Done
pub mod RunOf
pub mod Leave
pub mod Headline
