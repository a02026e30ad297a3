pub mod Overlaid
pub mod Saying
pub mod CallEnds
pub mod FirstWord
pub mod HeldText
pub mod DashLists
