use Rattle.std.proofs.Common.{◌+◌, List, map, take, reverse, get_or, sym, ap, ◌∙◌, arith}
use Rattle.std.proofs.lemmas.List.{drop-map, get_or-map, length-map}
use Rattle.std.proofs.lemmas.Result.{err_from_is_err_and}
use Rattle.gr_base.specs.Prelude.{found_under}
use Rattle.procs_tree.specs.declared.trees.PStmt.{PStmt}
use Rattle.procs_tree.specs.Prelude.{calls_walked_all, procedure_named, procedures_walked, block_of_all, procedure_of, Procedure, no_procedure}
use Rattle.procs_tree.proofs.CallsWalked.{same_called, walked_fails, walked_more}
use Rattle.procs_tree.proofs.call_faults.walk_procedures.Goals as goal

pub returns-in_err-n : goal.returns-in_err-n
returns-in_err-n c =
    let procs = c.args.procs.now in
    let ps = map procedure_of procs in
    let i = c.loop-i.i in
    let n = c.loop-i.n in
    let long = length-map procs procedure_of in
    let test = c.loop-i-test.true in
    let p = err_from_is_err_and c.from_residual.result c.from_residual.ensures.1 in
    rw (p.1, p.2)
    (sym (sym c.loop-i.invariant
    ∙ (ap (λ (rest : List Procedure). procedures_walked (reverse (take i ps)) n rest) (sym (drop-map procedure_of i procs))
    ∙ walked_fails ps i no_procedure n _ (omega (arith, long, test))
    (ap (λ (q : Procedure). calls_walked_all (procedure_named (reverse (take i ps))) n q.body)
    (get_or-map procedure_of procs i c.index-procs-i.result no_procedure (omega (arith, test))
    ∙ ap procedure_of (sym c.index-procs-i.is))
    ∙ (ap (λ (ss : List PStmt). calls_walked_all (procedure_named (reverse (take i ps))) n (block_of_all ss))
    (sym c.as_slice.ensures.value)
    ∙ (ap (λ called. calls_walked_all called n (block_of_all c.as_slice.result.now))
    (sym (same_called ps (found_under c.args.numbers.now) c.requires i))
    ∙ (sym c.walk_block.ensures ∙ c.in_err-n.was)))))))

pub loop-i-preserved : goal.loop-i-preserved
loop-i-preserved c =
    let procs = c.args.procs.now in
    let ps = map procedure_of procs in
    let i = c.loop-i.i in
    let n = c.loop-i.n in
    let p = get_or procs i c.index-procs-i.result in
    let long = length-map procs procedure_of in
    let test = c.loop-i-test.true in
    ap (λ (rest : List Procedure). procedures_walked (reverse (take (i + 1) ps)) c.in_ok-n.n rest)
    (sym (drop-map procedure_of (i + 1) procs))
    ∙ (walked_more ps i no_procedure n c.in_ok-n.n (omega (arith, long, test))
    (ap (λ (q : Procedure). calls_walked_all (procedure_named (reverse (take i ps))) n q.body)
    (get_or-map procedure_of procs i c.index-procs-i.result no_procedure (omega (arith, test))
    ∙ ap procedure_of (sym c.index-procs-i.is))
    ∙ (ap (λ (ss : List PStmt). calls_walked_all (procedure_named (reverse (take i ps))) n (block_of_all ss))
    (sym c.as_slice.ensures.value)
    ∙ (ap (λ called. calls_walked_all called n (block_of_all c.as_slice.result.now))
    (sym (same_called ps (found_under c.args.numbers.now) c.requires i))
    ∙ (sym c.walk_block.ensures ∙ c.in_ok-n.was))))
    ∙ (ap (λ (rest : List Procedure). procedures_walked (reverse (take i ps)) n rest) (drop-map procedure_of i procs)
    ∙ c.loop-i.invariant))
