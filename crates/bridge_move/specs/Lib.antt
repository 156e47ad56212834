pub mod Ended
pub mod MoveRun
pub mod Leave
pub mod Calls
