pub mod Places
pub mod PlacedPrograms
pub mod Scans
pub mod Maps
pub mod PlacedFiles
