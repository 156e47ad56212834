mod Joining
mod Parts
mod Slots
mod Ending
mod Seeing
mod Finishing
