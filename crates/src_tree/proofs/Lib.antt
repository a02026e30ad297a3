pub mod Loops
pub mod Chains
pub mod NoTypingFault
pub mod NoLimitPassed
pub mod InOrder
pub mod DeclaredOnce
pub mod Faultless
pub mod FirstAmong
mod FirstDeclaration
pub mod FirstFaults
pub mod Contexts
pub mod NamesDiffer
pub mod ProgramStatements
pub mod VariableNumbers
pub mod TreeHeights
pub mod KeptByRuns
pub mod StoreLengths
