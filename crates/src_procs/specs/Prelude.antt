-- The definitions that clauses and proofs above cite, passed on from one place. Declares nothing.
pub use Rattle.src_procs.specs.Expanding.{Binding, EndChoice, EndLoop, Held, Open, Pending, Rest, Return, Scope}
unfoldable pub use Rattle.src_procs.specs.Expanding.{Bound, begun, bound_after, closed_choice, end_choice, end_loop, expanded, expanded_one, finished, first_block, has_hidden, held_start, looked_up, nothing_bound, opened, put, returned, statements_of, with_alias, with_locals, with_made, with_new, with_parameter, with_parameters, with_scope}
unfoldable pub use Rattle.src_procs.specs.Begun.{begun_by, with_kept}
unfoldable pub use Rattle.src_procs.specs.Views.{binding_of, blocks_of, held_of, names_of, own_held, owns_all, pending_all, scope_of, scopes_of, source_made, unbound}
