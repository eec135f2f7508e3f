pub mod Replies
pub mod CallReplies
pub mod Reports
pub mod DriftReplies
