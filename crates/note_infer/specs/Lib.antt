-- The definitions, from those that people read (Steps to LeastNotes, Inferred) to those that only the search cites
-- (UnderWay, Brings).
pub mod Steps
pub mod Ways
pub mod Least
pub mod LeastNotes
pub mod UnderWay
pub mod Crossings
pub mod Branches
pub mod Brings
pub mod Candidates
pub mod Growth
pub mod Noting
pub mod Inferred
pub mod Kept
pub mod Prelude
