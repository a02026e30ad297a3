-- The definitions that clauses and proofs above cite, passed on from one place. Declares nothing.
unfoldable pub use Rattle.object_file.specs.FieldRules.{is_new_name, label_numbered, most_length_behind, shape_numbered}
pub use Rattle.object_file.specs.Fields.{Field, FieldThen, Fields, NoField, NoObject, Place, Telling, Version}
unfoldable pub use Rattle.object_file.specs.Fields.{bank_fields, cycles_fields, followed, instruction_fields, items_fields, list_fields, magic_field, name_fields, note_fields, number_field, number_told, object_fields, operand_fields, profile_fields, symbol_fields, version_field, window_fields}
pub use Rattle.object_file.specs.FirstFaults.{FieldBegins, Fills, HasMore, IsCutShort, IsRefused, IsTruncated, Nothing, OneMore}
unfoldable pub use Rattle.object_file.specs.FirstFaults.{IsFirstObjectFault, end_of_field, told}
pub use Rattle.object_file.specs.KnownNames.{AreNamesOf, GainsName}
unfoldable pub use Rattle.object_file.specs.KnownNames.{has_name}
unfoldable pub use Rattle.object_file.specs.Reading.{Decodes, Fails, Read, bank_at, banks_at, code_at, cycles_at, decoded, ended, field_at, instruction_at, items_at, kind_at, known, list_at, magic_at, name_at, name_bytes_at, note_at, notes_at, number_at, object_at, parts_at, place, profile_at, slots_at, symbol_at, symbols_at, version_at, window_at}
unfoldable pub use Rattle.object_file.specs.Spelling.{bank, cycles, instruction, label_code, listed, magic, name, note, number, profile, shape_code, spelling, symbol, window}
