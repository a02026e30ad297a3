use Rattle.std.proofs.Common.{◌+◌, map, sym, ap, ◌∙◌, subst, arith}
use Rattle.std.proofs.lemmas.List.{get_or-map, length-map}
use Rattle.gr_base.specs.Prelude.{found_under}
use Rattle.procs_tree.specs.Prelude.{Names, numbered, procedure_of, Procedure, no_procedure}
use Rattle.procs_tree.proofs.NumbersAdded.{AreSoFar, all_so_far, one_more_so_far}
use Rattle.procs_tree.proofs.finding.numbers_of.Goals as goal

pub loop-i-preserved : goal.loop-i-preserved
loop-i-preserved c =
    let procs = c.args.procs.now in
    let ps = map procedure_of procs in
    let i = c.loop-i.i in
    let long = length-map procs procedure_of in
    let test = c.loop-i-test.true in
    let before = found_under c.loop-i.numbers in
    subst (λ (known : Names). AreSoFar ps (i + 1) known)
    (ap (λ (p : Procedure). numbered before p.name i)
    (get_or-map procedure_of procs i c.index-procs-i.result no_procedure (omega (arith, test))
    ∙ ap procedure_of (sym c.index-procs-i.is))
    ∙ (ap (λ x. numbered before x i) (sym c.bytes.ensures.bytes) ∙ sym c.in_ok-add_name.ensures))
    (one_more_so_far ps i before (omega (arith, long, test)) c.loop-i.invariant)

pub returns : goal.returns
returns c =
    let long = length-map c.args.procs.now procedure_of in
    let test = c.loop-i-test.false in
    all_so_far (map procedure_of c.args.procs.now) c.loop-i.i (found_under c.loop-i.numbers) (omega (arith, long, test))
    c.loop-i.invariant
