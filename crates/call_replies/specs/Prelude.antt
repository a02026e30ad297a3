-- The definitions that clauses and proofs above cite, passed on from one place. Declares nothing.
unfoldable pub use Rattle.call_replies.specs.NameText.{escaped_unit, name_text, shown_char}
pub use Rattle.call_replies.specs.Texts.{Said}
unfoldable pub use Rattle.call_replies.specs.Texts.{comes_to, no_memory, said, too_long, unread, unwritten, usage, verdict_status, wrote}
