pub mod Choosing
pub mod Contents
pub mod Frames
pub mod Reading
pub mod Setting
pub mod Texts
