-- The definitions that clauses and proofs above cite, passed on from one place. Declares nothing.
pub use Rattle.procs_parser.specs.Calls.{Argument, CallState, CallStep, Called, Done, InCall, Opened, Still}
unfoldable pub use Rattle.procs_parser.specs.Calls.{argument_ends, behind_argument, behind_brackets, call_advanced, first_argument, in_argument}
pub use Rattle.procs_parser.specs.FileAdvances.{AllRead, ArrayClosing, ArrayTitled, ArrayTyped, Behind, Between, Calling, Declaring, Doing, Front, HeadPhase, InProcedure, LocalFresh, LocalLabelled, LocalTitled, LocalTyped, Naming, NoneYet, OneMore, Opening, Outside, ParserState, ScalarLabelled, ScalarTyped}
unfoldable pub use Rattle.procs_parser.specs.FileAdvances.{advanced, between, brace_next, bracket_next, ending, file_at, front_depth, head_depth, is_hidden_token, names_next, open_braces, opening, parameter_begins, performs, program_of, starts, statement_next, taken, target_of, with_call, with_calls, with_heading, word_next}
pub use Rattle.procs_parser.specs.FileGrammar.{AFile, AProcedure, AScalar, AnArray, Another, Arguments, Before, Calls, Chooses, ChoosesElse, Ends, Given, Last, LastOne, Local, Locals, NoArgument, NoLocal, NoParameter, NoProcedure, Parameters, Procedures, Puts, Repeats, Sets, SomeParameters, SpellsBlock, SpellsFile, SpellsParameter, SpellsParameters, SpellsTrees}
unfoldable pub use Rattle.procs_parser.specs.FileGrammar.{HasNoHiddenName, operators_of, proc_word}
unfoldable pub use Rattle.procs_parser.specs.FileRefusals.{ExplainsFile}
unfoldable pub use Rattle.procs_parser.specs.FileText.{ExplainsFileText, SpellsFileText}
unfoldable pub use Rattle.procs_parser.specs.StatesSeen.{advance_of, state_of}
