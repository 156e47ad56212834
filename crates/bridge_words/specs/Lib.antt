pub mod Grammar
pub mod Values
pub mod Tokens
pub mod Words
pub mod Asked
pub mod Wrong
pub mod Spellings
pub mod Lines
