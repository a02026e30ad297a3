-- The definitions that clauses and proofs above cite, passed on from one place. Declares nothing.
unfoldable pub use Rattle.gr_outside.specs.Files.{are_distinct, entry_of, files_of, is_named}
pub use Rattle.gr_outside.specs.MemShelf.{Shelved}
pub use Rattle.gr_outside.specs.MemSink.{Held}
pub use Rattle.gr_outside.specs.Shelf.{Log, Noted, ShelfCall, ShelfSeen}
unfoldable pub use Rattle.gr_outside.specs.CallLog.{IsWithin, call_of, calls_of}
unfoldable pub use Rattle.gr_outside.specs.Shelf.{Files, SameBut, after_note, bytes_of, fits, front_of, logged, read_of, untold, with_file, write_of}
pub use Rattle.gr_outside.specs.Sink.{SinkSeen}
