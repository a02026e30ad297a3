use Rattle.std.proofs.Common.{sym, subst}
use Rattle.src_tree.specs.Prelude.{source_of}
use Rattle.src_tree.specs.declared.trees.Program.{Program}
use Rattle.call_steps.specs.Prelude.{SpellsTyped}
use Rattle.call_steps.proofs.Saying.{no-source, program-first}
use Rattle.call_steps.proofs.sources.source_in.Goals as goal

pub returns-in-Ok-type_program-clause-found : goal.returns-in-Ok-type_program-clause-found
returns-in-Ok-type_program-clause-found c =
    subst (λ (q : Program). SpellsTyped c.args.procs c.args.text.now (source_of q))
    (sym c.in-Ok-type_program.ensures.same)
    (record {
      spells = c.in-Ok.ensures.found;
      typed = c.in-Ok-type_program.ensures.typed;
      within = c.in-Ok-type_program.ensures.within;
    })

pub returns-in-Err-type_program-clause-refused : goal.returns-in-Err-type_program-clause-refused
returns-in-Err-type_program-clause-refused c =
    no-source c.args.procs c.args.text.now c.program_fault.result _
    (program-first c.args.procs c.args.text.now (source_of c.in-Ok.program) c.in-Err-type_program.fault
    c.program_fault.result c.program_fault.ensures c.in-Ok.ensures.found c.in-Err-type_program.ensures.refused)
    c.not_a_program.ensures

pub returns-in-Err-clause-refused : goal.returns-in-Err-clause-refused
returns-in-Err-clause-refused c =
    no-source c.args.procs c.args.text.now c.in-Err.shown _ c.in-Err.ensures.refused c.not_a_program-in-Err.ensures
