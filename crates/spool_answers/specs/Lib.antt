pub mod Stages
pub mod Take
pub mod Mark
pub mod Pend
pub mod Leave
