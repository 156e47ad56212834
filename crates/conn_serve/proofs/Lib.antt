pub mod Acting
pub mod Faults
mod Leading
mod Saying
mod Fronts
mod Handling
mod Batching
mod Windowed
mod Runs
mod RunsOfOne
mod RelpSessions
mod RelpActing
mod Answering
mod LumberActing
mod LumberSessions
mod Feeding
mod Running
mod Beginning
mod Grouping
mod Acks
mod LumberAcks
pub mod Acknowledged
mod HecEntries
mod HecActing
mod HecFronts
mod HecIntake
mod HecSessions
pub mod HecAcks
pub mod Durable
pub mod Failing
pub mod Indexing
pub mod Late
mod Sayable
