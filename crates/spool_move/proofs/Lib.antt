pub mod Results
pub mod ReadOn
mod Turning
pub mod Growing
pub mod Outside
mod Taking
mod Giving
mod Rising
mod Present
mod Looking
mod Standing
pub mod Pages
mod Copies
mod Walks
mod Steps
mod Answering
mod Beginning
mod Numbers
mod Lasting
