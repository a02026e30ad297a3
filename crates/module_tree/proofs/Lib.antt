pub mod LogicalShift
pub mod TestedBelow
pub mod Example
