pub mod FileGrammar
pub mod FileRefusals
pub mod Calls
pub mod FileAdvances
pub mod StatesSeen
pub mod FileText
pub mod Prelude
