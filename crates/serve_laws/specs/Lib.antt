pub mod Parts
pub mod Faults
pub mod Durable
pub mod Contributes
pub mod Leaves
pub mod Runs
pub mod Laws
pub mod Last
