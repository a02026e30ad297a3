-- The definitions that clauses and proofs above cite, passed on from one place. Declares nothing.
unfoldable pub use Rattle.lt_assembler.specs.Assembled.{aimed, assembled, finished, finished_with, is_whole, parts_of, settled, text_read}
unfoldable pub use Rattle.lt_assembler.specs.Canonical.{canonical, code_words, cycles_words, instruction_words, line, note_words, object_lines, object_words, profile_words, window_words, words_for_bank, words_for_symbol}
pub use Rattle.lt_assembler.specs.Drafts.{Draft, Use}
unfoldable pub use Rattle.lt_assembler.specs.Drafts.{Labels, empty_draft, has_code, is_noted, place_of, takes_bank, takes_code, takes_symbol, with_label}
pub use Rattle.lt_assembler.specs.Earlier.{Earlier}
unfoldable pub use Rattle.lt_assembler.specs.Earlier.{block_words_by, given, place_after_all, stage_behind_all}
unfoldable pub use Rattle.lt_assembler.specs.Faults.{Finds, at_line, form, in_line, number_or, unless_not}
pub use Rattle.lt_assembler.specs.FirstFaults.{Here, InLine, IsComplete, IsFirstFaulty, IsFirstTextFault, IsUnknown, Leads, On, TooShort}
unfoldable pub use Rattle.lt_assembler.specs.FirstFaults.{AreSaid, LeadsToKnown}
pub use Rattle.lt_assembler.specs.Forms.{HasForm, HasInstructionForm}
unfoldable pub use Rattle.lt_assembler.specs.Forms.{InstructionFollows, IsTarget}
pub use Rattle.lt_assembler.specs.Instructions.{Aim, Coded}
unfoldable pub use Rattle.lt_assembler.specs.Instructions.{access_at_read, access_read, aim_read, alu_read, bare_read, br_read, branch_read, branch_to_read, idb_read, instruction_read, is_instruction, is_of_form, jmp_read, jump_read, ldb_read, ldw_read, li_read, load_read, offset_aim, offset_to, operands_read, operation_read, stb_read, stw_read, untargeted_read, without_target}
pub use Rattle.lt_assembler.specs.Items.{ABank, ALabel, ANote, ASymbol, AnInstruction, AnObject, Bank, Branch, ByName, Empty, InDigits, Instruction, Item, Jump, Label, Noted, Nothing, Object, SpellsTarget, Target, ToLabel, ToPlace, Variable, WordsSpell}
unfoldable pub use Rattle.lt_assembler.specs.LineParts.{behind_line, first_line, is_comment, is_part, line_len, line_words}
pub use Rattle.lt_assembler.specs.LineRules.{BadNumber, HasFault, IsOfForm, OtherForm, OverLimit, Says, SpellsInRange, TwiceNamed}
unfoldable pub use Rattle.lt_assembler.specs.LineRules.{FitsRanges, HasNewName, HasRoom}
unfoldable pub use Rattle.lt_assembler.specs.Lines.{has_bytes, is_ascii_line, is_blank, is_semicolon, lines, pieces, uncommented, words}
unfoldable pub use Rattle.lt_assembler.specs.Marks.{mark_from, mark_of}
unfoldable pub use Rattle.lt_assembler.specs.Numbers.{backward_of, begins_with, but_first, constant_of, forward_of, is_number, negative, number_within}
unfoldable pub use Rattle.lt_assembler.specs.Operands.{bank_named, claim_of, claims_of, cmp_named, is_hex, label_named, mask_of, mnemonic_named, mnemonic_word, mnemonics, named, op_named, register_of, shape_named, slot_named}
unfoldable pub use Rattle.lt_assembler.specs.Reading.{add_code, add_note, add_symbol, bank_line, bank_read, bank_with, by_first_word, code_line, cycles_read, four, has_room, instruction_follows, is_instruction_line, is_new, is_version, label_line, label_name, label_or_code, line_read, note_line, note_read, object_line, profile_read, read_lines, site_at_read, site_read, symbol_at, symbol_line, symbol_read, symbol_with, uses_of, versioned_read, width, window_read, with_code}
unfoldable pub use Rattle.lt_assembler.specs.Seen.{by_name, draft_of, seen_use}
pub use Rattle.lt_assembler.specs.Spelled.{ItemsSpell, SpellsInText}
unfoldable pub use Rattle.lt_assembler.specs.Spelled.{AreOnce, LinesSpell, StagesInOrder, Stands, bank_in, gathered, instruction_in, label_in, labels_in, leading, note_in, place_after, profile_in, stage_behind, symbol_in}
unfoldable pub use Rattle.lt_assembler.specs.Words.{Word, bank_word, claim_word, hex_digit, hex_word, label_word, offset_word, register_word, shape_word}
