mod Asking
mod Hanging
mod Turning
pub mod Chain
mod Reporting
