pub mod Line
pub mod Events
pub mod Stream
pub mod Peer
pub mod Sure
pub mod Runs
pub mod Load
