-- The definitions that clauses and proofs above cite, passed on from one place. Declares nothing.
unfoldable pub use Rattle.compiled_objects.specs.AgreeingStores.{AgreeOnPublic}
pub use Rattle.compiled_objects.specs.Compiles.{IsFor, LatenciesFit}
unfoldable pub use Rattle.compiled_objects.specs.Compiles.{ExplainsResidents, ExplainsRoom, at_start, is_some_scalar, latency_for, scalars_among, stores_by, stores_in, stores_with_residents}
unfoldable pub use Rattle.compiled_objects.specs.FastLayout.{HasFastLayout, fast_plan}
pub use Rattle.compiled_objects.specs.HeldNumbers.{with_block, with_statement}
unfoldable pub use Rattle.compiled_objects.specs.HeldNumbers.{held_for, reducer_at, with_place, with_places, with_test, with_tree}
pub use Rattle.compiled_objects.specs.Implements.{Implements}
unfoldable pub use Rattle.compiled_objects.specs.Implements.{HasSymbols, by_name}
