-- How a spool changes.
pub mod Next
pub mod Target
pub mod Take
pub mod Mark
