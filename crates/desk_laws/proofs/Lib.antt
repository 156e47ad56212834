pub mod Known
mod FreeSlots
