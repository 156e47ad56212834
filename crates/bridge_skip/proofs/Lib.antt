pub mod Outside
pub mod Rising
pub mod Finding
pub mod Known
pub mod MarkedOne
pub mod Running
