pub mod Writing
pub mod Firsts
pub mod Failures
pub mod Numbers
pub mod Endings
pub mod Desks
