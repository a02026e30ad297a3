-- The definitions that clauses and proofs above cite, passed on from one place. Declares nothing.
pub use Rattle.src_parser.specs.Advances.{Between, Declaring, Doing, ParserState}
unfoldable pub use Rattle.src_parser.specs.Advances.{advanced, between, open_braces, program_of, programs, source_made, with_heading}
pub use Rattle.src_parser.specs.Assignments.{Adds, EndedBy}
unfoldable pub use Rattle.src_parser.specs.Explained.{ExplainsTokens}
unfoldable pub use Rattle.src_parser.specs.Fails.{fail_of}
pub use Rattle.src_parser.specs.Expressions.{CutExpression, ExpressionBegins, FoundExpression, IsExpression, StrayToken, TokenTooDeep}
pub use Rattle.src_parser.specs.Grammar.{Array, Bracketed, Chooses, ChoosesElse, Compared, Compares, Declares, Ends, Indexed, Joined, Limits, Named, Negated, NoMore, Numeral, Program, Puts, Repeats, Scalar, Sentence, Sets, SpellsTree, Writes}
unfoldable pub use Rattle.src_parser.specs.Grammar.{comparison_of, keyword_of, level_of, limits, operator_of, operators}
pub use Rattle.src_parser.specs.Headings.{Begun, Closing, Declared, Heading, HeadingState, Labelled, Sized, Sizing, Titled, Typed}
unfoldable pub use Rattle.src_parser.specs.Headings.{declared, heading_advanced}
pub use Rattle.src_parser.specs.Operands.{At, Deep, Given, Index, Joins, Joint, Moves, Open, Pending, Reading, Sign, Stops, TokenStep, Waiting, Wanted}
unfoldable pub use Rattle.src_parser.specs.Operands.{closing, having, naming, pending, reads, tree_joined, used_of, wanting, where_room, whole}
pub use Rattle.src_parser.specs.Parts.{Asked, Done, ElementSet, ForChoice, ForLoop, Form, GuardRead, Guarding, Inside, Left, Made, Part, PartState, Place, Placed, Right, Still, Stored, Target, Value, VariableSet}
unfoldable pub use Rattle.src_parser.specs.Parts.{after_step, behind_expression, comparing, ending_where, guarding, in_expression, part_advanced, placing, targeting}
pub use Rattle.src_parser.specs.Printable.{BlockFits, IsFree, IsLow, IsPrintable, StatementFits, TestFits}
unfoldable pub use Rattle.src_parser.specs.Printable.{DeclsFit, IsPlain, SizeFits}
unfoldable pub use Rattle.src_parser.specs.ReadTokens.{after_read, ended, left_whole, read_to_end, reads_all, then_read}
pub use Rattle.src_parser.specs.Readers.{StopsAt}
unfoldable pub use Rattle.src_parser.specs.Readers.{ErrsFirst, ReadsTo}
pub use Rattle.src_parser.specs.Refusals.{CutShort, ProgramBegins, TooDeep, Unexpected}
unfoldable pub use Rattle.src_parser.specs.Refusals.{Shallow, token_kinds}
unfoldable pub use Rattle.src_parser.specs.Seen.{advance_of, among, heading_of, outers_of, phase_of, reading_of, stack_of, state_of, step_of}
pub use Rattle.src_parser.specs.Source.{HasTokens, SpellsSource}
unfoldable pub use Rattle.src_parser.specs.Source.{ExplainsText, ExplainsTextBy}
pub use Rattle.src_parser.specs.Statements.{Among, Blocks, Guarded, InFirst, InLoop, InPart, InSecond, Makers, MayElse, Otherwise, Outer, Phase, Ready}
unfoldable pub use Rattle.src_parser.specs.Statements.{between_statements, chosen, complete_of, depth_in, depth_of, elsing, entering, is_complete, leaving, otherwise, performed, with_part}
pub use Rattle.src_parser.specs.Tokenwise.{Advance, Begins, Completes, Cut, Deeper, Goes, Stray, TooMuch, Wrong}
unfoldable pub use Rattle.src_parser.specs.Tokenwise.{advances, after_advance, mapped, parsed, then_advance, with_braces}
