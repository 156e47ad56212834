pub mod Table
pub mod Words
pub mod States
pub mod Sessions
