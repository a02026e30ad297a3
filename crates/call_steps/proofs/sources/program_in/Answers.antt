use Rattle.std.proofs.Common.{Bool, IfOk, IfErr, IfSome, sym, subst}
use Rattle.src_tree.specs.Prelude.{source_of}
use Rattle.call_steps.specs.Prelude.{IsFirstSourceFault, Spells}
use Rattle.call_steps.proofs.sources.program_in.Goals as goal

pub returns-then-procs-clause-found : goal.returns-then-procs-clause-found
returns-then-procs-clause-found c =
    subst (λ (b : Bool). IfOk c.inlined.result (λ p. Spells b c.args.text.now (source_of p)))
    (sym c.if-procs.true)
    c.inlined.ensures.found

pub returns-then-procs-clause-refused : goal.returns-then-procs-clause-refused
returns-then-procs-clause-refused c =
    subst (λ (b : Bool). IfErr c.inlined.result (λ shown. IfSome shown (IsFirstSourceFault b c.args.text.now)))
    (sym c.if-procs.true) c.inlined.ensures.refused

pub returns-clause-found : goal.returns-clause-found
returns-clause-found c =
    subst (λ (b : Bool). IfOk c.parsed.result (λ p. Spells b c.args.text.now (source_of p)))
    (sym c.if-procs.false)
    c.parsed.ensures.found

pub returns-clause-refused : goal.returns-clause-refused
returns-clause-refused c =
    subst (λ (b : Bool). IfErr c.parsed.result (λ shown. IfSome shown (IsFirstSourceFault b c.args.text.now)))
    (sym c.if-procs.false) c.parsed.ensures.refused
