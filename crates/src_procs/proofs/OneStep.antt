-- One step of making a file's program changes nothing of what comes of it.
use Rattle.std.proofs.Common.{◌≡◌, ℕ, ◌+◌, Some, None, List, [], ◌∷◌, ◌++◌, length, refl, sym, ap, ◌∙◌, append_assoc}
use Rattle.std.proofs.lemmas.List.{append-nil, length-append}
use Rattle.gr_word.specs.declared.variables.Label.{Label}
use Rattle.src_tree.specs.Prelude.{Tree, Test}
use Rattle.procs_tree.specs.Prelude.{Statement, SetVariable, SetElement, Choice, Loop, Call, Block, Nothing, Then, Procedure, naming_all, new_values, new_labels, Renaming, renamed, renamed_test, Inlined, blocks_joined, both, inlined, inlined_all, inlines_of, inlined_call, assigned, new_name, no_name, Found, found}
use Rattle.src_procs.specs.Prelude.{Scope, Held, statements_of, put, opened, closed_choice, end_choice, end_loop, with_made, expanded_one, expanded, returned, begun, with_scope, Pending, Rest, Open, EndChoice, EndLoop, finished}
use Rattle.procs_tree.proofs.FoundCalls.{inlines_found, inlines_none}
use Rattle.src_tree.specs.Trees as plain

pub block_again : (b : plain.Block) → plain.block_of (statements_of b) ≡ b
block_again plain.Nothing = refl
block_again (plain.Then s rest) = ap (plain.Then s) (block_again rest)

joined_statements : (a b : plain.Block) → statements_of (blocks_joined a b) ≡ statements_of a ++ statements_of b
joined_statements plain.Nothing b = refl
joined_statements (plain.Then s rest) b = ap (λ ss. s ∷ ss) (joined_statements rest b)

pub put_nothing : (open_blocks : List (List plain.Statement)) → put [] open_blocks ≡ open_blocks
put_nothing [] = refl
put_nothing (here ∷ outer) = ap (λ h. h ∷ outer) (append-nil here)

pub put_both : (a b : List plain.Statement) (open_blocks : List (List plain.Statement))
    → put (a ++ b) open_blocks ≡ put b (put a open_blocks)
put_both a b [] = refl
put_both a b (here ∷ outer) = ap (λ h. h ∷ outer) (sym (append_assoc here a b))

-- what is held, by its parts
abbrev pub held : List Scope → List (List plain.Statement) → List Label → Held
held scopes open_blocks labels = record { scopes = scopes; open_blocks = open_blocks; labels = labels }

pub held_same : (scopes : List Scope) (a b : List (List plain.Statement)) (l m : List Label) → a ≡ b → l ≡ m
    → held scopes a l ≡ held scopes b m
held_same scopes a b l m e f = ap (λ o. held scopes o l) e ∙ ap (held scopes b) f

-- the code of two pieces is appended in sequence
made_both : (x : Held) (one : Inlined) (two : ℕ → Inlined)
    → with_made x (both one two (length x.labels))
    ≡ with_made (with_made x one) (two (length (with_made x one).labels))
made_both x one two =
    let size : length x.labels + length one.labels ≡ length (x.labels ++ one.labels) =
    sym (length-append x.labels one.labels) in
    ap (λ n. held x.scopes (put (statements_of (blocks_joined one.block (two n).block)) x.open_blocks)
    (x.labels ++ (one.labels ++ (two n).labels))) size
    ∙ held_same x.scopes _ _ _ _
    (ap (λ ss. put ss x.open_blocks) (joined_statements one.block (two (length (x.labels ++ one.labels))).block)
    ∙ put_both (statements_of one.block) (statements_of (two (length (x.labels ++ one.labels))).block) x.open_blocks)
    (sym (append_assoc x.labels one.labels (two (length (x.labels ++ one.labels))).labels))

-- no statements
pub nothing_expanded : (scopes : List Scope) (open_blocks : List (List plain.Statement)) (labels : List Label)
    → expanded Nothing (held scopes open_blocks labels) ≡ held scopes open_blocks labels
nothing_expanded [] open_blocks labels = refl
nothing_expanded (scope ∷ scopes) open_blocks labels =
    held_same (scope ∷ scopes) _ _ _ _ (put_nothing open_blocks) (append-nil labels)

-- a statement and those after it
pub then_expanded : (s : Statement) (rest : Block) (scopes : List Scope) (open_blocks : List (List plain.Statement))
    (labels : List Label)
    → expanded (Then s rest) (held scopes open_blocks labels)
    ≡ expanded rest (expanded_one s (held scopes open_blocks labels))
then_expanded s rest [] open_blocks labels = refl
then_expanded s rest (scope ∷ scopes) open_blocks labels =
    made_both (held (scope ∷ scopes) open_blocks labels)
    (inlined (inlines_of scope.callable) scope.names s (length labels))
    (inlined_all (inlines_of scope.callable) scope.names rest)

closed_made : (t : Test) (a b : plain.Block) (open_blocks : List (List plain.Statement))
    → put (plain.Choice t a b ∷ []) open_blocks
    ≡ closed_choice t (put (statements_of b) ([] ∷ put (statements_of a) ([] ∷ open_blocks)))
closed_made t a b open_blocks =
    ap (λ z. put (plain.Choice t z b ∷ []) open_blocks) (sym (block_again a))
    ∙ ap (λ z. put (plain.Choice t (plain.block_of (statements_of a)) z ∷ []) open_blocks) (sym (block_again b))

-- a choice: its first part, then its second
pub choice_expanded : (t : Test) (a b : Block) (scope : Scope) (scopes : List Scope)
    (open_blocks : List (List plain.Statement)) (labels : List Label)
    → expanded_one (Choice t a b) (held (scope ∷ scopes) open_blocks labels)
    ≡ end_choice (renamed_test scope.names t)
    (expanded b (opened (expanded a (opened (held (scope ∷ scopes) open_blocks labels)))))
choice_expanded t a b scope scopes open_blocks labels =
    let one = inlined_all (inlines_of scope.callable) scope.names a (length labels) in
    let two : ℕ → Inlined = λ n. inlined_all (inlines_of scope.callable) scope.names b n in
    let size : length labels + length one.labels ≡ length (labels ++ one.labels) =
    sym (length-append labels one.labels) in
    ap (λ n. held (scope ∷ scopes)
    (put (plain.Choice (renamed_test scope.names t) one.block (two n).block ∷ []) open_blocks)
    (labels ++ (one.labels ++ (two n).labels))) size
    ∙ held_same (scope ∷ scopes) _ _ _ _
    (closed_made (renamed_test scope.names t) one.block (two (length (labels ++ one.labels))).block open_blocks)
    (sym (append_assoc labels one.labels (two (length (labels ++ one.labels))).labels))

-- a loop: its body
pub loop_expanded : (t : Test) (a : Block) (scope : Scope) (scopes : List Scope)
    (open_blocks : List (List plain.Statement)) (labels : List Label)
    → expanded_one (Loop t a) (held (scope ∷ scopes) open_blocks labels)
    ≡ end_loop (renamed_test scope.names t) (expanded a (opened (held (scope ∷ scopes) open_blocks labels)))
loop_expanded t a scope scopes open_blocks labels =
    let one = inlined_all (inlines_of scope.callable) scope.names a (length labels) in
    held_same (scope ∷ scopes) _ _ _ _
    (ap (λ z. put (plain.Loop (renamed_test scope.names t) z ∷ []) open_blocks) (sym (block_again one.block))) refl

-- a call: its procedure's statements in a scope of their own
pub call_expanded : (name : List ℕ) (arguments : List Tree) (p : Procedure) (earlier callable : List Procedure)
    (names : Renaming) (scopes : List Scope) (open_blocks : List (List plain.Statement)) (labels : List Label)
    → inlines_of callable name names arguments (length labels)
    ≡ inlined_call (inlines_of earlier) p names arguments (length labels)
    → expanded_one (Call name arguments)
    (held (record { callable = callable; names = names } ∷ scopes) open_blocks labels)
    ≡ returned (expanded p.body
    (begun p earlier names arguments
    (held (record { callable = callable; names = names } ∷ scopes) open_blocks labels)))
call_expanded name arguments p earlier callable names scopes open_blocks labels is =
    let x = held (record { callable = callable; names = names } ∷ scopes) open_blocks labels in
    ap (with_made x) is
    ∙ made_both x
    (record {
      block = assigned names (length labels) (new_values p.parameters arguments p.locals);
      labels = new_labels p.parameters arguments p.locals;
    })
    (inlined_all (inlines_of earlier)
    (naming_all new_name no_name names (length labels) p.parameters arguments p.locals) p.body)

-- an assignment
pub set_expanded : (x : List ℕ) (e : Tree) (scope : Scope) (scopes : List Scope)
    (open_blocks : List (List plain.Statement)) (labels : List Label)
    → expanded_one (SetVariable x e) (held (scope ∷ scopes) open_blocks labels)
    ≡ held (scope ∷ scopes) (put (plain.SetVariable (scope.names x) (renamed scope.names e) ∷ []) open_blocks) labels
set_expanded x e scope scopes open_blocks labels =
    held_same (scope ∷ scopes) _ _ _ _ refl (append-nil labels)

pub element_expanded : (x : List ℕ) (i e : Tree) (scope : Scope) (scopes : List Scope)
    (open_blocks : List (List plain.Statement)) (labels : List Label)
    → expanded_one (SetElement x i e) (held (scope ∷ scopes) open_blocks labels)
    ≡ held (scope ∷ scopes)
    (put (plain.SetElement (scope.names x) (renamed scope.names i) (renamed scope.names e) ∷ []) open_blocks) labels
element_expanded x i e scope scopes open_blocks labels =
    held_same (scope ∷ scopes) _ _ _ _ refl (append-nil labels)

-- a call of nothing
pub none_expanded : (name : List ℕ) (arguments : List Tree) (scope : Scope) (x : Held)
    → found scope.callable name ≡ None
    → with_scope scope x ≡ expanded_one (Call name arguments) (with_scope scope x)
none_expanded name arguments scope x e =
    sym (ap (with_made (with_scope scope x)) (inlines_none scope.callable name e scope.names arguments (length x.labels))
    ∙ held_same (scope ∷ x.scopes) _ _ _ _ (put_nothing x.open_blocks) (append-nil x.labels))

-- a call of a procedure
pub some_expanded : (name : List ℕ) (arguments : List Tree) (scope : Scope) (x : Held) (f : Found)
    → found scope.callable name ≡ Some f
    → returned (expanded f.procedure.body
    (begun f.procedure f.earlier scope.names arguments (with_scope scope x)))
    ≡ expanded_one (Call name arguments) (with_scope scope x)
some_expanded name arguments scope x f e =
    sym (call_expanded name arguments f.procedure f.earlier scope.callable scope.names x.scopes x.open_blocks x.labels
    (inlines_found scope.callable name f e scope.names arguments (length x.labels)))

-- a choice, by its guard in the program, by what is held when its first part begins, and by what waits then
pub choice_so : (t made : Test) (a b : Block) (scope : Scope) (x y : Held) (blocks : List (List plain.Statement))
    (waiting next : List Pending)
    → made ≡ renamed_test scope.names t → y ≡ with_scope scope x → blocks ≡ [] ∷ y.open_blocks
    → next ≡ Rest a ∷ Open ∷ Rest b ∷ EndChoice made ∷ waiting
    → finished next (record y { open_blocks = blocks })
    ≡ finished waiting (expanded_one (Choice t a b) (with_scope scope x))
choice_so t made a b scope x y blocks waiting next is same opens waits =
    ap (λ ps. finished ps (record y { open_blocks = blocks })) waits
    ∙ (ap (λ (bs : List (List plain.Statement)). finished waiting (end_choice made (expanded b (opened
    (expanded a (record y { open_blocks = bs })))))) opens
    ∙ (ap (λ m. finished waiting (end_choice m (expanded b (opened (expanded a (opened y)))))) is
    ∙ (ap (λ h. finished waiting (end_choice (renamed_test scope.names t)
    (expanded b (opened (expanded a (opened h)))))) same
    ∙ ap (finished waiting) (sym (choice_expanded t a b scope x.scopes x.open_blocks x.labels)))))

pub loop_so : (t made : Test) (a : Block) (scope : Scope) (x y : Held) (blocks : List (List plain.Statement))
    (waiting next : List Pending)
    → made ≡ renamed_test scope.names t → y ≡ with_scope scope x → blocks ≡ [] ∷ y.open_blocks
    → next ≡ Rest a ∷ EndLoop made ∷ waiting
    → finished next (record y { open_blocks = blocks })
    ≡ finished waiting (expanded_one (Loop t a) (with_scope scope x))
loop_so t made a scope x y blocks waiting next is same opens waits =
    ap (λ ps. finished ps (record y { open_blocks = blocks })) waits
    ∙ (ap (λ (bs : List (List plain.Statement)). finished waiting (end_loop made
    (expanded a (record y { open_blocks = bs })))) opens
    ∙ (ap (λ m. finished waiting (end_loop m (expanded a (opened y)))) is
    ∙ (ap (λ h. finished waiting (end_loop (renamed_test scope.names t) (expanded a (opened h)))) same
    ∙ ap (finished waiting) (sym (loop_expanded t a scope x.scopes x.open_blocks x.labels)))))
