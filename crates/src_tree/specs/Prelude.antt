-- The definitions that clauses and proofs above cite, passed on from one place. Declares nothing.
pub use Rattle.src_tree.specs.Causes.{BadLength, HeavyBody, HighExpression, IllTyped, IsFirstDeclaration, IsFirstFault, ManyVariables, ManyWords, NamedAgain}
unfoldable pub use Rattle.src_tree.specs.Causes.{HasBadLength, IsNamedAgain, PassesWords}
unfoldable pub use Rattle.src_tree.specs.Contexts.{Context, context_of, label_and_shape, shape_of}
pub use Rattle.src_tree.specs.FirstFault.{IsFirstAt}
unfoldable pub use Rattle.src_tree.specs.FirstFault.{StatementFault, first_among, first_fault, flow_fault, guard_fault, has_leaking_index, height_fault, kind_fault, leaks, length_fault, length_fits, limits_fault, loop_fault, names_fault, same_shape, shown_number, shown_place, statements_fault, too_high, twice_fault, typing_fault, use_fault, variables_fault, weight_fault, where_true, words_fault, ◌or_else◌}
unfoldable pub use Rattle.src_tree.specs.Heights.{height_of}
unfoldable pub use Rattle.src_tree.specs.Labels.{higher, inside, label_at, label_of, label_of_test, label_or_public, secret_label}
pub use Rattle.src_tree.specs.Limits.{IsWithinLimits, LowBlock, LowStatement, block_weight, statement_weight}
unfoldable pub use Rattle.src_tree.specs.Limits.{LengthFits, Low, max_height, max_length, max_variables, max_weight, max_words, parts_weight, test_weight, total_words, tree_weight, weight_of, words_of, words_of_length}
pub use Rattle.src_tree.specs.Meaning.{Left, run_of, run_of_block}
unfoldable pub use Rattle.src_tree.specs.Meaning.{Execution, Store, element, element_set, evaluated, guard_holds, in_turn, loop, looped, meaning, scalar, scalar_set, turn_taken, variable_number, with_word, words_of_number, wrapped}
pub use Rattle.src_tree.specs.PartByPart.{block_count, block_fault, count_of, statement_fault}
pub use Rattle.src_tree.specs.Printed.{block_text, statement_text}
unfoldable pub use Rattle.src_tree.specs.Printed.{cmp_sign, decls_text, in_braces, label_keyword, line_of_token, op_sign, source_text, spaced, test_text, tree_text}
pub use Rattle.src_tree.specs.Statements.{in_order, with_parts}
unfoldable pub use Rattle.src_tree.specs.Statements.{StandsIn}
pub use Rattle.src_tree.specs.Trees.{Block, Choice, Element, Loop, Nothing, Number, Operation, SetElement, SetVariable, Source, Statement, Test, Then, Tree, Variable}
unfoldable pub use Rattle.src_tree.specs.Trees.{block_of, block_of_all, expr_tree, source_of, statement_of, test_of}
pub use Rattle.src_tree.specs.Typing.{IsTyped, TypedBlock, TypedStatement}
unfoldable pub use Rattle.src_tree.specs.Typing.{DeclaredOnce, Flows, TypedTest, TypedTree, UsedAs}
