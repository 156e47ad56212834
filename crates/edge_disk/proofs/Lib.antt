pub mod Calls
pub mod Moments
pub mod GateSteps
pub mod Leaving
