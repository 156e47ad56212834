pub mod Request
pub mod State
pub mod Answer
pub mod Row
pub mod Session
