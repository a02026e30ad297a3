-- The definitions that clauses and proofs above cite, passed on from one place. Declares nothing.
pub use Rattle.block_cache_gen.specs.Accesses.{ArrayAccess}
unfoldable pub use Rattle.block_cache_gen.specs.Accesses.{Banks, access_of, accessed_by, accesses, block_in, is_held, may_skip, seen_of, seen_of_all, slots_after, test_accesses, word_number}
pub use Rattle.block_cache_gen.specs.Alike.{Alike, AreNumberedAlike, AreReducedAlike, BothReduced, BothWithin, ByNumber, InOneBank, IsPairCount, NonePaired, Numbers, Oblivious, OnePaired, Operations, Pair, Residents, Same, Scalars, StartsPaired, ToOblivious, ToResidents, ToSame, ToScalars, is_product}
unfoldable pub use Rattle.block_cache_gen.specs.Alike.{AreHeldAlike, AreNumbersAlike, are_plain, both_products, by_same_number, held_alike, in_one_bank, in_step, is_alike, is_pair, is_same, is_same_number, numbered_alike, numbers_alike, pair_count, reduced_alike, same_flag, straight_alike}
pub use Rattle.block_cache_gen.specs.Assignments.{Assigns}
unfoldable pub use Rattle.block_cache_gen.specs.Assignments.{IsAssignment, IsEffect, assigned, by_mode, seen_of_set, words_written, write_by}
unfoldable pub use Rattle.block_cache_gen.specs.Behind.{code_behind, notes_behind}
pub use Rattle.block_cache_gen.specs.Carries.{Carries, CarriesInArm}
unfoldable pub use Rattle.block_cache_gen.specs.Carries.{held_tree}
unfoldable pub use Rattle.block_cache_gen.specs.Codes.{access_by, access_code, applied_code, compared_code, compares, copy_code, effect_of, expr_code, fixed_code, fixed_index, fixed_word, found_by, guard_code, has_offset, held_number, index_operand, indexed_code, is_cached, is_in_place, is_masked, is_power, is_straight, is_within_home, keeps_label, least_word, left_operand, literal, load_code, located_code, may_skip_loads, may_step, numbered_code, numbered_register, numbering, numbering_by, offset_code, operand, operand_part, operand_register, operand_unless, operation_code, placed_code, placed_word, read_by, read_code, reduced_code, reducer, reducing, scalar_code, scalar_set, set_code, shift_code, skips, steps_at, store_code, stored_among, stored_by, stored_code, straight, straight_code, straight_if, target, write_code, zero_of}
pub use Rattle.block_cache_gen.specs.Conditions.{IsStatementFor}
pub use Rattle.block_cache_gen.specs.Emitted.{Appended, CodeGrows}
unfoldable pub use Rattle.block_cache_gen.specs.Emitted.{EmitsAccess, EmitsExpr, EmitsFixed, EmitsFound, EmitsGuard, EmitsLoad, EmitsOperand, EmitsOperation, EmitsSet, EmitsStraight, access_notes, no_notes, notes_in}
pub use Rattle.block_cache_gen.specs.Extends.{Extends}
unfoldable pub use Rattle.block_cache_gen.specs.HeldCodes.{HasSecretSlot, begin_code, each_held, end_code, held_beginning, held_ending, home_numbered}
pub use Rattle.block_cache_gen.specs.Homes.{EncryptedSlot, HasHomes, Held, Home, IsArrayHome, IsInOneBlock, IsPin, IsResidentHome, IsScalarHome, IsSpreadHome, ObliviousSlot, Pin, PlainSlot, Serves, Setting}
unfoldable pub use Rattle.block_cache_gen.specs.Homes.{HomesApart, blocks_set, first_kept, further_slots, held_label, home_of, label_by, no_home, pin_at, pin_of, ranged, register_for, room_of, slot_of_word, slots_of_home, start_of_home, words_a_block}
unfoldable pub use Rattle.block_cache_gen.specs.InstructionsOf.{IsCodeOfSet}
pub use Rattle.block_cache_gen.specs.LeavesWord.{LeavesBoth, LeavesWord}
unfoldable pub use Rattle.block_cache_gen.specs.Notes.{access_mask, all_marked, base_mask, claim_by, claimed_where_used, compared_notes, expr_notes, guard_notes, index_notes, is_public, is_used, load_notes, loaded_notes, loading_code, marked_by, mask_to, note_of, operand_mask, operation_notes, scalar_set_notes, set_notes, slot_claims, straight_notes, unmarked}
unfoldable pub use Rattle.block_cache_gen.specs.PatternsOf.{Loads, access_loads, access_shows, applied_shows, block_loaded, block_named_by, block_tree, element_by, element_slot, encrypted_loaded, found_shows, index_by, index_loads, load_shows, loads_by, no_loads, number_in, number_tree, numbered_shows, numbered_tree, offset_shows, one_load, operand_tree, operation_gap, operation_loads, operation_shows, operation_tree, pattern_of_expr, pattern_of_set, pinned_slot, placed_shows, placed_tree, plain_loaded, read_shows, read_shows_by, reduced_shows, reduced_tree, scalar_set_shows, scalar_shows, scalar_tree, shifted_shows, shifted_tree, shows_among, shows_by, shows_of_expr, shows_of_set, shows_of_test, slots_of_expr, slots_of_set, slots_of_test, step_gap, steps_tree, store_shows, stored_shows, stored_shows_by, then_loads, tree_by, tree_of_expr, word_gap, word_named_by, word_read, word_shows, write_shows}
pub use Rattle.block_cache_gen.specs.ProgramWords.{BlockHasWords, StatementHasWords}
pub use Rattle.block_cache_gen.specs.PublicCode.{PassedSet, PassedTest, StandsNoted}
unfoldable pub use Rattle.block_cache_gen.specs.PublicCode.{AtItsPlace, HasLabel, IsPassedAsExpr, IsPassedAsSet, IsPassedAsTest}
pub use Rattle.block_cache_gen.specs.PublicIndexes.{BlockHasPublicIndexes, StatementHasPublicIndexes}
unfoldable pub use Rattle.block_cache_gen.specs.PublicIndexes.{HasPublicIndexes, IndexIsPublic, SetHasPublicIndexes, TestHasPublicIndexes, shows_index}
pub use Rattle.block_cache_gen.specs.RunsOf.{BeginsCode, Evaluates, EvaluatesTest, Performs}
pub use Rattle.block_cache_gen.specs.SecretCode.{ArmWalk}
unfoldable pub use Rattle.block_cache_gen.specs.SecretCode.{IsWalkedAsExpr, IsWalkedAsSet, IsWalkedAsTest}
unfoldable pub use Rattle.block_cache_gen.specs.ServedBlocks.{block_served, first_blocks, pin_in, pin_or}
pub use Rattle.block_cache_gen.specs.Settings.{IsFrame, IsSetUp}
unfoldable pub use Rattle.block_cache_gen.specs.Settings.{IsFastFrame, fast_plan_of, fast_setting, four_slots, further_blocks, home_at, homes_at, is_pin_to, is_pinned, plan_of, setting_for, setting_of, slot_from}
pub use Rattle.block_cache_gen.specs.StandsFor.{FitsHomes, HoldsBank, HoldsBlock, IsBlockOf, StandsFor}
unfoldable pub use Rattle.block_cache_gen.specs.StoredWords.{counts_as_store, is_held_register, is_store, is_write, mode_writes, set_stores, stored_words, stores_by, stores_in, written_words}
unfoldable pub use Rattle.block_cache_gen.specs.TreeWords.{HasWords, SetHasWords, TestHasWords}
pub use Rattle.block_cache_gen.specs.Twins.{DifferInLastWritten, Dropped, Ends, Goes, HasTwin, IsInstead, Itself, Mirrors, Read, Stored}
unfoldable pub use Rattle.block_cache_gen.specs.Twins.{AreTwins, other_mode}
unfoldable pub use Rattle.block_cache_gen.specs.Variables.{claim_in, claims_in, home_in, variable_at, variable_of}
