pub mod Channel
pub mod ChannelLaws
pub mod Driver
pub mod Register
pub mod RegisterLaws
