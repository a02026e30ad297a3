pub mod Words
pub mod SmallNumbers
