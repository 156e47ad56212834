pub mod CountLaws
pub mod HeldLaws
pub mod EntryLaws
pub mod ChannelLaws
pub mod SoundLaws
pub mod AskLaws
pub mod KeptLaws
pub mod CallLaws
