pub mod StepRuns
pub mod StepPasses
pub mod StepWalks
