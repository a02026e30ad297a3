pub mod SameConditions
pub mod ShiftedValues
pub mod Temporaries
pub mod Hoisting
pub mod KeptValues
