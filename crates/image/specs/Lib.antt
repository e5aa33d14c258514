pub mod Image
pub mod Feed
