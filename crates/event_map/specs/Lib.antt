pub mod Strings
pub mod Objects
pub mod Maps
pub mod Laws
