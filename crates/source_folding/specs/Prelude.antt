-- The definitions that clauses and proofs above cite, passed on from one place. Declares nothing.
pub use Rattle.source_folding.specs.Folded.{folded_block, folded_statement}
unfoldable pub use Rattle.source_folding.specs.Folded.{by_numbers, by_power, by_right, folded, folded_source, folded_test, is_product, is_remainder, mask_of, number_of, operation, power_of}
pub use Rattle.source_folding.specs.Numbers.{BlockNumbersFit, StatementNumbersFit}
unfoldable pub use Rattle.source_folding.specs.Numbers.{NumbersFit, TestNumbersFit}
