-- The definitions that clauses and proofs above cite, passed on from one place. Declares nothing.
pub use Rattle.run_data.specs.Given.{GivenValue, a_list, a_number, another}
unfoldable pub use Rattle.run_data.specs.Given.{entries_view, find_given, first_given_fault, given_list_fault, given_members, given_named_fault, given_of, given_value_fault, given_values, given_view, given_words, least_given}
unfoldable pub use Rattle.run_data.specs.InputsOf.{first_input_fault, has_length, inputs_in, inputs_of, is_word, json_of, list_fault, list_of, listed_values, named_fault, or_else, unless_fault, value_fault, word_of, words_given, words_listed}
unfoldable pub use Rattle.run_data.specs.OutputMembers.{HaveNames, members_seen}
pub use Rattle.run_data.specs.OutputText.{AreInOrder}
unfoldable pub use Rattle.run_data.specs.OutputText.{member_placed, members_with, names_of, output_of, shown, word_items}
unfoldable pub use Rattle.run_data.specs.PathText.{leaves_text, level_text, levels_behind, levels_head, levels_line, path_line}
pub use Rattle.run_data.specs.Putting.{PutsText}
unfoldable pub use Rattle.run_data.specs.TraceFiles.{file_events, observed_in, stamped_in}
pub use Rattle.run_data.specs.TraceGrammar.{BreaksAt}
unfoldable pub use Rattle.run_data.specs.TraceGrammar.{AreEvents, EventFits, GoesOn, LineFits, SpellsTrace, TraceBegins, front_parts, trace_lines}
pub use Rattle.run_data.specs.TracePieces.{AreRead, RunStops}
unfoldable pub use Rattle.run_data.specs.TracePieces.{LineFound, MayFollow, PiecesFound, break_of, contents, event_pieces, is_halt, line_pieces}
unfoldable pub use Rattle.run_data.specs.TraceText.{ending_text, event_line, event_text, line_of, trace_text_of, words_text}
