-- The definitions that clauses and proofs above cite, passed on from one place. Declares nothing.
pub use Rattle.bank_alloc.specs.Apart.{LiesWithin}
unfoldable pub use Rattle.bank_alloc.specs.Apart.{AreApart, IsBankOf, end_of_place, scalar_bank, start_of_place}
unfoldable pub use Rattle.bank_alloc.specs.Classes.{class_by, class_of, is_labelled, is_scalar}
pub use Rattle.bank_alloc.specs.Fits.{Fits, ScalarsFit}
unfoldable pub use Rattle.bank_alloc.specs.Fits.{LacksRoom, Refuses, scalars_of}
pub use Rattle.bank_alloc.specs.Indexes.{secret_index_in_block, secret_index_in_statement}
unfoldable pub use Rattle.bank_alloc.specs.Indexes.{has_secret_index, secret_index_in, secret_index_in_test}
unfoldable pub use Rattle.bank_alloc.specs.Keys.{symbol_key}
pub use Rattle.bank_alloc.specs.Known.{GainsNames}
unfoldable pub use Rattle.bank_alloc.specs.Known.{class_in, is_member}
pub use Rattle.bank_alloc.specs.Lacks.{AreFew}
unfoldable pub use Rattle.bank_alloc.specs.Lacks.{first_full, first_lack}
pub use Rattle.bank_alloc.specs.Layout.{ArePlacesIn, AreSymbolsAt, AtEarlierWord, InEarlierBank, IsLaidOut, IsWithinBank, StandsBefore}
unfoldable pub use Rattle.bank_alloc.specs.Layout.{HasLayout, no_decl, no_place, placed_symbol, placed_symbols}
pub use Rattle.bank_alloc.specs.PlaceRules.{ArePlaced, BanksNeed}
unfoldable pub use Rattle.bank_alloc.specs.PlaceRules.{blocks_in_turn, blocks_of_class, class_count, is_same, place_by}
pub use Rattle.bank_alloc.specs.Places.{IsPlacesOf}
unfoldable pub use Rattle.bank_alloc.specs.Places.{array_place, arrays_in, bank_count, blocks_for, blocks_needed, blocks_of_banks, blocks_taken, first_block, first_free_block, is_array, is_array_in, is_oblivious, is_scalar_in, oblivious_arrays, place_behind, places_behind, places_of, scalars_in}
unfoldable pub use Rattle.bank_alloc.specs.Samples.{sample, sample_blocks, sample_places}
