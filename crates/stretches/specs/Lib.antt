pub mod Standing
pub mod Coming
pub mod Passing
pub mod Checked
pub mod Shows
pub mod InArms
pub mod Prelude
