pub mod Told
pub mod Line
pub mod Leave
pub mod Released
pub mod Skipped
pub mod SkipRun
