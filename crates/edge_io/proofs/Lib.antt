pub mod Known
mod Place
mod Places
mod Telling
mod Unused
