use Rattle.std.proofs.Common.{ap, ◌∙◌, []}
use Rattle.src_tree.specs.Prelude.{context_of, source_of, block_of_all}
use Rattle.bank_alloc.specs.Prelude.{secret_index_in_block, class_in, places_behind}
use Rattle.gr_base.specs.Prelude.{found_under}
use Rattle.bank_alloc.proofs.PlacedBehind.{classes_are, laid_out}
use Rattle.bank_alloc.proofs.allocation.lay_out.Goals as goal

pub returns-clause-places : goal.returns-clause-places
returns-clause-places c =
    let p = source_of c.args.p.now in
    let size = c.block_words-size.result in
    let indexed = c.in_ok-indexed.indexed in
    let known = c.in_ok-names.ensures ∙ ap context_of c.as_slice-decls.ensures.value in
    let found = c.in_ok-indexed.ensures
    ∙ ap (λ body. λ name. secret_index_in_block (found_under c.in_ok-names.names) name (block_of_all body))
    c.as_slice.ensures.value in
    laid_out p c.args.w size (class_in indexed) _ c.as_slice-2.result.now c.block_words-size.ensures.words
    (classes_are p c.in_ok-names.names indexed known found)
    (c.in_ok-of_var.ensures.places ∙ ap (places_behind (class_in indexed) size []) c.as_slice-decls.ensures.value)
    c.as_slice-2.ensures.value c.in_ok-blocks.ensures
