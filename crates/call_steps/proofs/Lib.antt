pub mod Endings
pub mod Progressing
pub mod Finding
pub mod CallsMade
pub mod Reaching
pub mod Answering
pub mod Saying
mod FirstSourceFaults
pub mod Beginnings
pub mod EventCounts
