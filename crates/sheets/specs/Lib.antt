pub mod Split
pub mod Joined
pub mod Judged
pub mod Answers
pub mod Numbered
pub mod Listing
