pub mod Line
pub mod Block
pub mod Signs
pub mod Head
pub mod Laws
