pub mod Table
pub mod Rows
pub mod Laws
pub mod Kept
