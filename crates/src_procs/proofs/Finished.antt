-- What is held once no call is left is the program of the file.
use Rattle.std.proofs.Common.{◌≡◌, List, ◌++◌, ap, ◌∙◌}
use Rattle.gr_word.specs.declared.variables.Label.{Label}
use Rattle.src_tree.specs.declared.trees.Decl.{Decl}
use Rattle.src_tree.specs.Prelude.{Source}
use Rattle.procs_tree.specs.Prelude.{File, added, inlined_body, inlined_file}
use Rattle.src_procs.specs.Prelude.{Held, held_start, first_block, with_made, statements_of}
use Rattle.src_procs.proofs.OneStep.{block_again}
use Rattle.src_tree.specs.Trees as plain

pub program_so : (f : File) (h : Held) (ds : List Decl) (ss : List plain.Statement)
    → h ≡ with_made (held_start f.procedures) (inlined_body f) → ds ≡ f.decls ++ added 0 h.labels
    → ss ≡ first_block h.open_blocks
    → ◌≡◌ {A = Source} (record { decls = ds; body = plain.block_of ss }) (inlined_file f)
program_so f h ds ss is d s =
    let l : h.labels ≡ (inlined_body f).labels = ap (λ (x : Held). x.labels) is in
    let b : ss ≡ statements_of (inlined_body f).block = s ∙ ap (λ (x : Held). first_block x.open_blocks) is in
    ap (λ (z : List Decl). record { decls = z; body = plain.block_of ss })
    (d ∙ ap (λ (ls : List Label). f.decls ++ added 0 ls) l)
    ∙ ap (λ (z : plain.Block). record { decls = f.decls ++ added 0 (inlined_body f).labels; body = z })
    (ap plain.block_of b ∙ block_again (inlined_body f).block)
