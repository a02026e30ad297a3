-- The definitions that clauses and proofs above cite, passed on from one place. Declares nothing.
unfoldable pub use Rattle.shown_programs.specs.ShownNames.{IsNew}
