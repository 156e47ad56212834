pub mod Cell
pub mod Content
pub mod Fault
pub mod Fields
pub mod Register
