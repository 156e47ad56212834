pub mod ByteRange
pub mod CountedFile
pub mod FileDisk
pub mod Held
pub mod HeldLaws
pub mod OpenDisk
pub mod Opened
pub mod Unopened
