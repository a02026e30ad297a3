-- The program of a file whose own statements are copied.
use Rattle.std.proofs.Common.{◌≡◌, ◌≤◌, List, [], ◌∷◌, length, map, reverse, take, subst, ap, ◌∙◌, arith}
use Rattle.src_tree.specs.Prelude.{Source}
use Rattle.src_tree.specs.declared.trees.Decl.{Decl}
use Rattle.src_procs.specs.declared.expanding.Made.{Made}
use Rattle.procs_tree.specs.declared.trees.PStmt.{PStmt}
use Rattle.procs_tree.specs.declared.trees.Proc.{Proc}
use Rattle.procs_tree.specs.declared.trees.ProcFile.{ProcFile}
use Rattle.procs_tree.specs.Prelude.{Inlined, inline_fault, inlined_all, inlined_body, inlined_file, inlines_of, kept_name, block_of_all, file_of, procedure_of, Block, Procedure, bare_file}
use Rattle.procs_pruning.specs.Prelude.{SameCode}
use Rattle.src_procs.specs.Prelude.{Held, Pending, Rest, expanded, finished, held_start, with_made, with_scope, own_held, scopes_of, source_made}
use Rattle.src_procs.proofs.OwnSteps.{all_callable, own_program, own_scope}
use Rattle.src_procs.specs.declared.scopes.Scope as scopes

-- files with the same procedures and statements
pub same-fault : (ps qs : List Proc) (ss ts : List PStmt) → ps ≡ qs → ss ≡ ts
    → inline_fault (bare_file ps ss) ≡ inline_fault (bare_file qs ts)
same-fault ps qs ss ts procs body =
    ap (λ (l : List Proc). inline_fault (bare_file l ss)) procs
    ∙ ap (λ (l : List PStmt). inline_fault (bare_file qs l)) body

-- statements in the file's own scope
pub own_expanded : (procs : List Proc) (outer : List scopes.Scope) (m n : Made) (start done : Held) (b : Block)
    (waiting before : List Pending) → outer ≡ []
    → start ≡ with_scope (record { callable = reverse (take (length procs) (map procedure_of procs)); names = kept_name })
    (record (own_held procs m) { scopes = scopes_of procs outer })
    → waiting ≡ Rest b ∷ before → before ≡ [] → done ≡ finished waiting start
    → own_held procs n ≡ record done { scopes = own_scope procs ∷ [] }
    → own_held procs n ≡ expanded b (own_held procs m)
own_expanded procs outer m n start done b waiting before none first waits last ends same =
    let x = own_held procs m in
    let all : length procs ≤ length procs = omega arith in
    let begins : start ≡ x =
    first
    ∙ (ap (λ (ps : List Procedure). with_scope (record { callable = reverse ps; names = kept_name })
    (record x { scopes = scopes_of procs outer })) (all_callable procs (length procs) all)
    ∙ ap (λ (ss : List scopes.Scope). with_scope (own_scope procs) (record x { scopes = scopes_of procs ss })) none) in
    same
    ∙ ap (λ (h : Held). record h { scopes = own_scope procs ∷ [] })
    (ends
    ∙ (ap (λ (ps : List Pending). finished ps start) (waits ∙ ap (λ (ps : List Pending). Rest b ∷ ps) last)
    ∙ ap (λ (h : Held). expanded b h) begins))

-- the file's own statements, without the calls that add nothing
pub own_whole : (procs : List Proc) (body : List PStmt) (less : Block) (start done : Held)
    → SameCode (reverse (take (length procs) (map procedure_of procs))) less (block_of_all body)
    → start ≡ held_start (map procedure_of procs) → done ≡ expanded less start
    → done ≡ with_made (held_start (map procedure_of procs)) (inlined_body (bare_file procs body))
own_whole procs body less start done same begins ends =
    let ps = map procedure_of procs in
    let all : length procs ≤ length procs = omega arith in
    ends
    ∙ (ap (λ (h : Held). expanded less h) begins
    ∙ ap (λ (i : Inlined). with_made (held_start ps) i)
    (subst (λ (qs : List Procedure). inlined_all (inlines_of (reverse qs)) kept_name less 0
    ≡ inlined_all (inlines_of (reverse qs)) kept_name (block_of_all body) 0) (all_callable procs (length procs) all)
    (same kept_name 0)))

-- the program of what was made
pub copied_program : (f : ProcFile) (procs : List Proc) (body : List PStmt) (declared decls : List Decl) (m : Made)
    (p : Source) → procs ≡ f.procs.items → body ≡ f.body.items → declared ≡ f.decls.items → decls ≡ declared
    → own_held procs m ≡ with_made (held_start (map procedure_of procs)) (inlined_body (bare_file procs body))
    → p ≡ source_made decls m → p ≡ inlined_file (file_of f)
copied_program f procs body declared decls m p same whole named again is made =
    own_program f procs m p same
    (is ∙ ap (λ (ss : List PStmt). with_made (held_start (map procedure_of procs)) (inlined_body (bare_file procs ss)))
    whole)
    (made ∙ ap (λ (ds : List Decl). source_made ds m) (again ∙ named))
