-- The definitions that clauses and proofs above cite, passed on from one place. Declares nothing.
unfoldable pub use Rattle.gr_base.specs.Added.{Adds, AddsLess}
unfoldable pub use Rattle.gr_base.specs.Calls.{next_fails, one_more}
unfoldable pub use Rattle.gr_base.specs.Counts.{Rose}
unfoldable pub use Rattle.gr_base.specs.Fails.{IfFault, IsFaultAnd, MatchFail}
unfoldable pub use Rattle.gr_base.specs.Lists.{EachAfter, Within, at_last, is_within}
unfoldable pub use Rattle.gr_base.specs.NameMaps.{found_under}
unfoldable pub use Rattle.gr_base.specs.Numerals.{IsNumeralOf, OneNumeral, are_digits, is_canonical_numeral}
unfoldable pub use Rattle.gr_base.specs.Results.{◌>>=◌}
