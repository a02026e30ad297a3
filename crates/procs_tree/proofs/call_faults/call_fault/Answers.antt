use Rattle.std.proofs.Common.{List, Option, map, sym, ap, ◌∙◌}
use Rattle.std.proofs.lemmas.List.{get_or-map}
use Rattle.procs_tree.specs.declared.trees.Param.{Param}
use Rattle.procs_tree.specs.Prelude.{arguments_fault, call_fault, Found, by_number, Procedure, parameter_of, procedure_of, trees_of, no_procedure}
use Rattle.gr_base.specs.Prelude.{found_under}
use Rattle.std.specs.Option.{option_map}
use Rattle.procs_tree.proofs.call_faults.call_fault.Goals as goal

pub returns-in-None : goal.returns-in-None
returns-in-None c =
    ap (λ (o : Option Found). call_fault c.args.n (trees_of c.args.arguments.now) (option_map (λ (f : Found). f.procedure) o))
    (c.in-None.ensures.found
    ∙ ap (by_number (map procedure_of c.args.procs.now) c.args.callable (found_under c.args.numbers.now))
    c.bytes.ensures.bytes)

pub returns-in-Some : goal.returns-in-Some
returns-in-Some c =
    c.arguments_fault.ensures
    ∙ (ap (λ (ps : List Param). arguments_fault c.args.n (trees_of c.args.arguments.now) (map parameter_of ps))
    c.as_slice.ensures.value
    ∙ (ap (λ (p : Procedure). arguments_fault c.args.n (trees_of c.args.arguments.now) p.parameters)
    (sym (get_or-map procedure_of c.args.procs.now c.in-Some.k c.index-procs-k.result no_procedure
    c.in-Some.ensures.within))
    ∙ ap (λ (o : Option Found). call_fault c.args.n (trees_of c.args.arguments.now)
    (option_map (λ (f : Found). f.procedure) o))
    (c.in-Some.ensures.found
    ∙ ap (by_number (map procedure_of c.args.procs.now) c.args.callable (found_under c.args.numbers.now))
    c.bytes.ensures.bytes)))
