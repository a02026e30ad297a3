use Rattle.std.proofs.Common.{sym, ◌∙◌}
use Rattle.src_tree.specs.Prelude.{source_of}
use Rattle.std.proofs.lemmas.Result.{err_from_is_err_and}
use Rattle.procs_tree.specs.Prelude.{file_of, bare_file}
use Rattle.procs_tree.proofs.CallCauses.{not-caused}
use Rattle.procs_tree.proofs.Judged.{found_explains, kept_for}
use Rattle.src_procs.proofs.WholeFiles.{copied_program, same-fault}
use Rattle.src_procs.proofs.inlining.inline.Goals as goal

pub returns-in_err-numbers-clause-refused : goal.returns-in_err-numbers-clause-refused
returns-in_err-numbers-clause-refused c =
    let f = c.args.f.now in
    let passed = err_from_is_err_and c.from_residual.result c.from_residual.ensures.1 in
    rw (passed.1, passed.2)
    (found_explains c.in_err-numbers.field-0.0
    (bare_file c.as_slice-procs.result.now c.as_slice-body.result.now) (file_of f)
    (same-fault c.as_slice-procs.result.now f.procs.items c.as_slice-body.result.now f.body.items
    c.as_slice-procs.ensures.value c.as_slice-body.ensures.value)
    c.in_err-numbers.ensures.refused)

pub returns-clause-faultless : goal.returns-clause-faultless
returns-clause-faultless c =
    let f = c.args.f.now in
    not-caused (file_of f)
    (sym (same-fault c.as_slice-procs.result.now f.procs.items c.as_slice-body.result.now f.body.items
    c.as_slice-procs.ensures.value c.as_slice-body.ensures.value) ∙ c.in_ok-numbers.ensures.faultless)

pub returns-clause-inlined : goal.returns-clause-inlined
returns-clause-inlined c =
    copied_program c.args.f.now c.as_slice-procs.result.now c.as_slice-body.result.now c.as_slice-2.result.now
    c.in_ok-decls.decls.items c.in_ok-made.made (source_of c.in_ok-program.program)
    c.as_slice-procs.ensures.value c.as_slice-body.ensures.value c.as_slice-2.ensures.value c.in_ok-decls.ensures
    c.in_ok-made.ensures c.in_ok-program.ensures

pub returns-clause-meaning : goal.returns-clause-meaning
returns-clause-meaning c =
    let f = c.args.f.now in
    kept_for (file_of f) (source_of c.in_ok-program.program) c.requires.plain
    (sym (same-fault c.as_slice-procs.result.now f.procs.items c.as_slice-body.result.now f.body.items
    c.as_slice-procs.ensures.value c.as_slice-body.ensures.value) ∙ c.in_ok-numbers.ensures.faultless)
    (copied_program f c.as_slice-procs.result.now c.as_slice-body.result.now c.as_slice-2.result.now
    c.in_ok-decls.decls.items c.in_ok-made.made (source_of c.in_ok-program.program)
    c.as_slice-procs.ensures.value c.as_slice-body.ensures.value c.as_slice-2.ensures.value c.in_ok-decls.ensures
    c.in_ok-made.ensures c.in_ok-program.ensures)
