pub mod Standing
pub mod Alone
pub mod Runs
pub mod Fitting
