pub mod Cuts
pub mod Beginnings
pub mod LineLaws
pub mod BlockLaws
pub mod SignLaws
pub mod TellLaws
pub mod WordLaws
pub mod ReadLaws
