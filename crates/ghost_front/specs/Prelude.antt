-- The definitions that clauses and proofs above cite, passed on from one place. Declares nothing.
unfoldable pub use Rattle.ghost_front.specs.Dashes.{dashes, dashes_among, dashes_in, names_of, or_no_dashes, reads, writes}
unfoldable pub use Rattle.ghost_front.specs.HeldText.{held_seen}
unfoldable pub use Rattle.ghost_front.specs.Manners.{first_is, manner_in, manner_of}
unfoldable pub use Rattle.ghost_front.specs.Requests.{asked, asks_front, asks_help, asks_tool, first_word}
unfoldable pub use Rattle.ghost_front.specs.Saying.{Echoes, Gains, SaysPlain}
pub use Rattle.ghost_front.specs.Served.{Around, Delivers, IsCall, NoRoom, NotDone, NotPut, NotTaken, Printed, Refused, Serves, Streamed, StreamsFile, Taken, Takes, Untaken, Whole}
unfoldable pub use Rattle.ghost_front.specs.Served.{KeepsOthers, around, begun, bytes_of, most_input}
pub use Rattle.ghost_front.specs.Streams.{Streams}
unfoldable pub use Rattle.ghost_front.specs.Streams.{as_shelf, dash, overlaid, stream_of, told}
