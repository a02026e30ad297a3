use Rattle.std.proofs.Common.{◌+◌, ◌-◌, ◌^◌, min, List, map, length, sym, ap, ◌∙◌}
use Rattle.std.proofs.lemmas.List.{get_or-map}
use Rattle.src_tree.specs.Prelude.{shown_number}
use Rattle.src_tree.specs.declared.trees.Decl.{Decl}
use Rattle.procs_tree.specs.declared.trees.Param.{Param}
use Rattle.gr_base.specs.Prelude.{found_under}
use Rattle.procs_tree.specs.Prelude.{by_number, new_values, parameter_of, procedure_of, trees_of, no_procedure}
use Rattle.procs_tree.proofs.Measured.{counted_found, counted_none}
use Rattle.procs_tree.proofs.sizes.call_size.Goals as goal

pub returns-in-None : goal.returns-in-None
returns-in-None c =
    counted_none c.args.procs.now _ (trees_of c.args.arguments.now) c.args.sizes.now
    (c.in-None.ensures.found
    ∙ ap (by_number (map procedure_of c.args.procs.now) c.args.callable (found_under c.args.numbers.now))
    c.bytes.ensures.bytes)

pub returns-in-Some : goal.returns-in-Some
returns-in-Some c =
    counted_found c.args.procs.now c.in-Some.k _ (trees_of c.args.arguments.now)
    c.args.sizes.now (procedure_of c.index-procs-k.result) c.new_count-values.result c.saturating_add.result
    c.in-Some.ensures.within
    (get_or-map procedure_of c.args.procs.now c.in-Some.k c.index-procs-k.result no_procedure
    c.in-Some.ensures.within ∙ ap procedure_of (sym c.index-procs-k.is))
    (c.in-Some.ensures.found
    ∙ ap (by_number (map procedure_of c.args.procs.now) c.args.callable (found_under c.args.numbers.now))
    c.bytes.ensures.bytes)
    (c.new_count-values.ensures
    ∙ (ap (λ (ps : List Param). shown_number (length (new_values (map parameter_of ps) (trees_of c.args.arguments.now)
    c.as_slice-in-Some.result.now))) c.as_slice.ensures.value
    ∙ ap (λ (ds : List Decl). shown_number (length (new_values (map parameter_of c.index-procs-k.result.params.items)
    (trees_of c.args.arguments.now) ds))) c.as_slice-in-Some.ensures.value))
    (c.saturating_add.ensures ∙ ap (λ n. min (c.new_count-values.result + n) (2 ^ 64 - 1)) c.size_at.ensures)
