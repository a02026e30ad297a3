-- One step of a file's own statements changes nothing of what comes of them.
use Rattle.std.proofs.Common.{◌≡◌, ℕ, ◌≤◌, map, List, [], ◌∷◌, ◌++◌, length, reverse, take, refl, sym, ap, ◌∙◌, arith}
use Rattle.std.proofs.lemmas.List.{append-nil, length-map, reverse-append, take_all}
use Rattle.src_tree.specs.Prelude.{shown_number, Tree, Test, Source}
use Rattle.src_procs.specs.declared.expanding.Made.{Made}
use Rattle.procs_tree.specs.declared.trees.PStmt.{PStmt}
use Rattle.procs_tree.specs.declared.trees.Proc.{Proc}
use Rattle.procs_tree.specs.declared.trees.ProcFile.{ProcFile}
use Rattle.procs_tree.specs.Prelude.{Names, HasSizes, counted_call, AreNumbered, found_before, block_of_all, file_of, procedure_of, statement_of, SetVariable, SetElement, Call, Choice, Loop, Block, Procedure, Inlined, inlined_body, inlined_file, inlines_of, kept_name, renamed, renamed_test, bare_file}
use Rattle.src_procs.specs.Prelude.{Held, Pending, Rest, Open, EndChoice, EndLoop, Scope, expanded, expanded_one, finished, held_start, put, with_made, blocks_of, own_held, source_made}
use Rattle.src_procs.proofs.Finished.{program_so}
use Rattle.src_procs.proofs.OneStep.{choice_so, element_expanded, held_same, loop_so, nothing_expanded, put_nothing, set_expanded, then_expanded}
use Rattle.procs_pruning.proofs.Pruning.{counted_dead}
use Rattle.src_tree.specs.Trees as plain

abbrev pub own_scope : List Proc → Scope
own_scope procs = record { callable = reverse (map procedure_of procs); names = kept_name }

-- without the scope
abbrev bare : List Proc → Made → Held
bare procs m = record (own_held procs m) { scopes = [] }

pub own_choice : (procs : List Proc) (t made : Test) (a b : Block) (m : Made) (blocks : List (List plain.Statement))
    (waiting next : List Pending) → made ≡ renamed_test kept_name t → blocks ≡ [] ∷ blocks_of m.open_blocks.items
    → next ≡ Rest a ∷ Open ∷ Rest b ∷ EndChoice made ∷ waiting
    → finished next (record (own_held procs m) { open_blocks = blocks })
    ≡ finished waiting (expanded_one (Choice t a b) (own_held procs m))
own_choice procs t made a b m blocks waiting next is opens waits =
    choice_so t made a b (own_scope procs) (bare procs m) (own_held procs m) blocks waiting next is refl opens waits

pub own_loop : (procs : List Proc) (t made : Test) (a : Block) (m : Made) (blocks : List (List plain.Statement))
    (waiting next : List Pending) → made ≡ renamed_test kept_name t → blocks ≡ [] ∷ blocks_of m.open_blocks.items
    → next ≡ Rest a ∷ EndLoop made ∷ waiting
    → finished next (record (own_held procs m) { open_blocks = blocks })
    ≡ finished waiting (expanded_one (Loop t a) (own_held procs m))
own_loop procs t made a m blocks waiting next is opens waits =
    loop_so t made a (own_scope procs) (bare procs m) (own_held procs m) blocks waiting next is refl opens waits

pub own_set : (procs : List Proc) (x y : List ℕ) (e d : Tree) (m : Made) (blocks : List (List plain.Statement))
    → y ≡ kept_name x → d ≡ renamed kept_name e
    → blocks ≡ put (plain.SetVariable y d ∷ []) (blocks_of m.open_blocks.items)
    → record (own_held procs m) { open_blocks = blocks } ≡ expanded_one (SetVariable x e) (own_held procs m)
own_set procs x y e d m blocks name value is =
    let x' = own_held procs m in
    ap (λ (bs : List (List plain.Statement)). record x' { open_blocks = bs })
    (is
    ∙ (ap (λ z. put (plain.SetVariable z d ∷ []) x'.open_blocks) name
    ∙ ap (λ z. put (plain.SetVariable (kept_name x) z ∷ []) x'.open_blocks) value))
    ∙ sym (set_expanded x e (own_scope procs) [] x'.open_blocks x'.labels)

pub own_element : (procs : List Proc) (x y : List ℕ) (i j e d : Tree) (m : Made)
    (blocks : List (List plain.Statement)) → y ≡ kept_name x → j ≡ renamed kept_name i → d ≡ renamed kept_name e
    → blocks ≡ put (plain.SetElement y j d ∷ []) (blocks_of m.open_blocks.items)
    → record (own_held procs m) { open_blocks = blocks } ≡ expanded_one (SetElement x i e) (own_held procs m)
own_element procs x y i j e d m blocks name index value is =
    let x' = own_held procs m in
    ap (λ (bs : List (List plain.Statement)). record x' { open_blocks = bs })
    (is
    ∙ (ap (λ z. put (plain.SetElement z j d ∷ []) x'.open_blocks) name
    ∙ (ap (λ z. put (plain.SetElement (kept_name x) z d ∷ []) x'.open_blocks) index
    ∙ ap (λ z. put (plain.SetElement (kept_name x) (renamed kept_name i) z ∷ []) x'.open_blocks) value)))
    ∙ sym (element_expanded x i e (own_scope procs) [] x'.open_blocks x'.labels)

-- no statement is left
pub own_none : (procs : List Proc) (whole : List PStmt) (m : Made) → whole ≡ []
    → own_held procs m ≡ expanded (block_of_all (reverse whole)) (own_held procs m)
own_none procs whole m is =
    sym (ap (λ (ss : List PStmt). expanded (block_of_all (reverse ss)) (own_held procs m)) is
    ∙ nothing_expanded (own_scope procs ∷ []) (own_held procs m).open_blocks (own_held procs m).labels)

-- the last statement of a list in reverse order comes first
pub own_then : (procs : List Proc) (whole left : List PStmt) (s : PStmt) (m : Made) → whole ≡ left ++ s ∷ []
    → expanded (block_of_all (reverse left)) (expanded_one (statement_of s) (own_held procs m))
    ≡ expanded (block_of_all (reverse whole)) (own_held procs m)
own_then procs whole left s m is =
    sym (ap (λ (ss : List PStmt). expanded (block_of_all (reverse ss)) (own_held procs m)) is
    ∙ (ap (λ (ss : List PStmt). expanded (block_of_all ss) (own_held procs m)) (reverse-append left (s ∷ []))
    ∙ then_expanded (statement_of s) (block_of_all (reverse left)) (own_scope procs ∷ [])
    (own_held procs m).open_blocks (own_held procs m).labels))

pub all_callable : (procs : List Proc) (callable : ℕ) → length procs ≤ callable
    → take callable (map procedure_of procs) ≡ map procedure_of procs
all_callable procs callable le =
    let long = length-map procs procedure_of in
    take_all callable (map procedure_of procs) (omega (le, long, arith))

-- a call that is replaced by nothing
pub own_dead : (procs : List Proc) (sizes : List ℕ) (callable : ℕ) → HasSizes (map procedure_of procs) sizes
    → (numbers : Names) → AreNumbered (map procedure_of procs) numbers → (name : List ℕ) (es : List Tree) (size : ℕ)
    → size ≡ shown_number (counted_call sizes es (found_before (map procedure_of procs) callable (numbers name)))
    → size ≡ 0 → length procs ≤ callable → (m : Made)
    → own_held procs m ≡ expanded_one (Call name es) (own_held procs m)
own_dead procs sizes callable known numbers numbered name es size is zero le m =
    let x = own_held procs m in
    let d = counted_dead (map procedure_of procs) sizes callable known numbers numbered in
    sym (ap (λ (ps : List Procedure). with_made x (inlines_of (reverse ps) name kept_name es (length x.labels)))
    (sym (all_callable procs callable le))
    ∙ (ap (λ (i : Inlined). with_made x i) (d.dead name es (sym is ∙ zero) kept_name (length x.labels))
    ∙ held_same x.scopes _ _ _ _ (put_nothing x.open_blocks) (append-nil x.labels)))

-- the program of what was made
pub own_program : (f : ProcFile) (procs : List Proc) (m : Made) (p : Source) → procs ≡ f.procs.items
    → own_held procs m
    ≡ with_made (held_start (map procedure_of procs)) (inlined_body (bare_file procs f.body.items))
    → p ≡ source_made f.decls.items m → p ≡ inlined_file (file_of f)
own_program f procs m p same is made =
    made
    ∙ program_so (file_of f) (own_held procs m) _ _
    (is
    ∙ ap (λ (ps : List Proc). with_made (held_start (map procedure_of ps)) (inlined_body (bare_file ps f.body.items)))
    same) refl refl
