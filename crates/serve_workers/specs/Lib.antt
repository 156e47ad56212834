pub mod Served
pub mod Works
pub mod Crews
pub mod Answering
