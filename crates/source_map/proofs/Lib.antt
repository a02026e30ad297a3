pub mod Scanning
pub mod Mapped
pub mod Expressions
pub mod PlacesBoth
pub mod Laying
pub mod StatementsLaid
pub mod ProgramsPlaced
pub mod FilesPlaced
