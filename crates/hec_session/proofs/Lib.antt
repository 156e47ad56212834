pub mod CodeLaws
pub mod EventLaws
pub mod QueryLaws
pub mod CheckLaws
pub mod ActLaws
pub mod ReplyLaws
pub mod RefusalLaws
