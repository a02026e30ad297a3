pub mod Trees
pub mod Tables
pub mod NodeWords
pub mod Sameness
pub mod TreeValues
pub mod Prelude
