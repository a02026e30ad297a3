-- The definitions that clauses and proofs above cite, passed on from one place. Declares nothing.
pub use Rattle.procs_tree.specs.CallCauses.{AsEarlier, CallFault, CallsNone, CountDiffers, FoundCall, InCall, InProcedure, IsFirst, IsFirstCallFault, IsNamedAgain, OwnTwice, PassesOther, ProcedureFault, RepeatsName, TooMany, UsesOther, calls_in, calls_in_statement, names_in_block, names_in_statement}
unfoldable pub use Rattle.procs_tree.specs.CallCauses.{Calls, ExplainsInlining, HaveNone, calls_after, max_statements, names_in, own_names, parameter_name}
pub use Rattle.procs_tree.specs.CallMeaning.{does, does_all}
unfoldable pub use Rattle.procs_tree.specs.CallMeaning.{Names, RunsOfCalls, called, calls_of, declared_names, element_of, of_caller, one_word, passes, scalar_of, valued, with_element, with_scalar}
pub use Rattle.procs_tree.specs.Numbered.{Found}
unfoldable pub use Rattle.procs_tree.specs.Numbered.{found, AreNumbered, by_number, found_before, procedure_by_number, found_at, no_procedure}
unfoldable pub use Rattle.procs_tree.specs.Frames.{named_by, naming, naming_all, naming_locals, new_labels, new_values}
pub use Rattle.procs_tree.specs.InlineFaults.{calls_walked, calls_walked_all, knows_block, knows_statement}
unfoldable pub use Rattle.procs_tree.specs.InlineFaults.{IsFoundFault, arguments_fault, body_fault, call_fault, calls_fault, fault_met, fault_where, file_walked, inline_fault, is_bare, knows, knows_each, lacks_name, local_name, names_variable, next_call, none_named, numbered, numbered_all, procedure_named, procedures_fault, procedures_walked}
pub use Rattle.procs_tree.specs.Inlined.{Inlined, inlined, inlined_all}
unfoldable pub use Rattle.procs_tree.specs.Inlined.{Inlines, Renaming, added, assigned, blocks_joined, both, choice_of, inlined_body, inlined_call, inlined_file, inlines_of, is_hidden, kept_name, loop_of, new_name, no_name, only_statement, renamed, renamed_test}
pub use Rattle.procs_tree.specs.Measured.{AreSizes, HasSizes, IsMeasured, Measured}
unfoldable pub use Rattle.procs_tree.specs.Measured.{counted_call, scalars, sizes_by}
pub use Rattle.procs_tree.specs.Promise.{HasNewWords}
unfoldable pub use Rattle.procs_tree.specs.Promise.{ArePlain, KeepsMeaning}
unfoldable pub use Rattle.procs_tree.specs.Seen.{block_of, block_of_all, file_of, parameter_of, procedure_of, statement_of, trees_of, bare_file, names_seen}
pub use Rattle.procs_tree.specs.Sizes.{HasSize, size_of, size_of_all, statements_in, statements_in_one}
unfoldable pub use Rattle.procs_tree.specs.Sizes.{CallSizes, file_size, sizes_of}
pub use Rattle.procs_tree.specs.Trees.{Block, Call, Choice, File, Loop, Nothing, OfValue, OfVariable, Parameter, Procedure, SetElement, SetVariable, Statement, Then}
