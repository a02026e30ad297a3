pub mod Flushed
pub mod Evaluating
pub mod SampleInputs
pub mod Samples
pub mod SampleRuns
pub mod CallsNamed
pub mod PureCalls
