-- The definitions that clauses and proofs above cite, passed on from one place. Declares nothing.
pub use Rattle.ghost_page.specs.Page.{IsAnswered}
unfoldable pub use Rattle.ghost_page.specs.Page.{IsFile, IsText, page_outside, page_shelf, shelf_seen, sink_seen, words_in}
