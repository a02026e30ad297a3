-- The definitions that clauses and proofs above cite, passed on from one place. Declares nothing.
unfoldable pub use Rattle.command_words.specs.Asks.{assemble_asks, bus_app, bus_asks, bus_named, bus_named_on, bus_of, check_asks, compile_asks, compile_named, disassemble_asks, evaluate_asks, evaluate_named, infer_asks, run_asks, run_named, sample_asks, sample_named, trace_asks, trace_named, two_asks}
pub use Rattle.command_words.specs.CommandLines.{AFlag, AName, AnOption, Apart, Behind, Ended, Flagged, IsLine, Joined, Named, Part, Says, StandTogether}
unfoldable pub use Rattle.command_words.specs.CommandLines.{AreOnce, AreTexts, IsAmong, IsPlain, Text, compile_options, has_flag, names_in, run_options, value_in}
unfoldable pub use Rattle.command_words.specs.Options.{IsFound, asked_by, block_log_given, flag_given, is_option_number, items_given, none_wrong, number_given, option_within, seed_given, texts, two_named}
pub use Rattle.command_words.specs.Pairs.{Pair}
unfoldable pub use Rattle.command_words.specs.Pairs.{in_pairs, pairs_of}
pub use Rattle.command_words.specs.VerbLines.{Call}
unfoldable pub use Rattle.command_words.specs.VerbLines.{WritesFile, flags_of, name_of, options_of}
pub use Rattle.command_words.specs.VerbRows.{VerbRow}
unfoldable pub use Rattle.command_words.specs.VerbRows.{assemble_row, check_row, command_of, compile_row, disassemble_row, evaluate_row, infer_row, row_of_two, rule_for, run_row, sample_row, trace_row, with_all}
pub use Rattle.command_words.specs.Verbs.{Works}
unfoldable pub use Rattle.command_words.specs.Verbs.{asked_for, asked_of, asked_work, asks_of, row_of, verb_named}
unfoldable pub use Rattle.command_words.specs.Windows.{window_given}
pub use Rattle.command_words.specs.WordsAsk.{AsksByOne, AsksByTwo, AsksForBus, AsksToCompile, AsksToEvaluate, AsksToRun, AsksToSample, AsksToTrace, WordsAsk}
unfoldable pub use Rattle.command_words.specs.WordsAsk.{AskExactly, verb_names}
