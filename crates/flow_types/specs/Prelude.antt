-- The definitions that clauses and proofs above cite, passed on from one place. Declares nothing.
unfoldable pub use Rattle.flow_types.specs.Refusals.{ExplainsProgram}
pub use Rattle.flow_types.specs.Surveys.{is_faulty_block, is_faulty_statement}
unfoldable pub use Rattle.flow_types.specs.Surveys.{has_other_shape, is_faulty, is_faulty_test, is_wrong}
pub use Rattle.flow_types.specs.Walk.{walk_block, walk_statement}
unfoldable pub use Rattle.flow_types.specs.Walk.{IsRefusal, cause_of, fault_of, finish, found, names_gathered, nothing_known, sizes_fault, with_name}
unfoldable pub use Rattle.flow_types.specs.Wants.{declared_want, declared_wants}
