-- How a device is opened, and a doubt mended.
pub mod Mending
pub mod Recovering
