pub mod TreeLaws
pub mod NodeEquality
pub mod TableLaws
pub mod TreeEquality
