-- The definitions that clauses and proofs above cite, passed on from one place. Declares nothing.
unfoldable pub use Rattle.fault_texts.specs.EscapedNames.{escaped_char}
unfoldable pub use Rattle.fault_texts.specs.Plain.{IsPlain, shown_byte}
