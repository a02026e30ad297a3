use Rattle.std.proofs.Common.{◌≡◌, ap, ◌∙◌, List, map, subst}
use Rattle.std.specs.Prelude.{IfOk}
use Rattle.src_tree.specs.declared.trees.Decl.{Decl}
use Rattle.src_tree.specs.Prelude.{context_of, source_of, block_of_all}
use Rattle.gr_base.specs.Prelude.{found_under}
use Rattle.bank_alloc.specs.declared.classes.Class.{Class}
use Rattle.bank_alloc.specs.Prelude.{secret_index_in_block, class_in}
use Rattle.bank_alloc.proofs.PlacedBehind.{classes_are}
use Rattle.bank_alloc.proofs.classes.classes_of.Goals as goal

pub returns : goal.returns
returns c =
    let p = source_of c.args.p.now in
    let indexed = c.in_ok-indexed.indexed in
    let known = c.in_ok-names.ensures ∙ ap context_of c.as_slice-decls.ensures.value in
    let found = c.in_ok-indexed.ensures
    ∙ ap (λ body. λ name. secret_index_in_block (found_under c.in_ok-names.names) name (block_of_all body))
    c.as_slice.ensures.value in
    subst (λ (f : Decl → Class). IfOk c.classes_in.result (λ classes. classes.items ≡ map f p.decls))
    (classes_are p c.in_ok-names.names indexed known found)
    (subst (λ (ds : List Decl). IfOk c.classes_in.result (λ classes. classes.items ≡ map (class_in indexed) ds))
    c.as_slice-decls.ensures.value c.classes_in.ensures)
