pub mod Lasting
pub mod Leading
pub mod Making
pub mod Jointly
pub mod Fits
