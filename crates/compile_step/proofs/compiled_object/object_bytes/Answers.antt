use Rattle.std.proofs.Common.{List, ℕ, sym, subst}
use Rattle.src_tree.specs.Prelude.{source_of}
use Rattle.call_steps.specs.Prelude.{IsCompiledTo}
use Rattle.compile_step.proofs.compiled_object.object_bytes.Goals as goal

pub returns-clause-compiled : goal.returns-clause-compiled
returns-clause-compiled c =
    subst (λ (bytes : List ℕ). IsCompiledTo (source_of c.args.program.now) c.args.target.now bytes)
    (sym c.in_ok-encode.ensures.spelled) c.in_ok-object.ensures.compiled
