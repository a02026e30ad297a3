-- A file's own call: its arguments, and what is made of it.
use Rattle.std.proofs.Common.{◌≡◌, ◌≤◌, ℕ, List, [], ◌∷◌, ◌++◌, length, map, reverse, take, Option, Some, None, refl, sym, ap, ◌∙◌}
use Rattle.std.proofs.lemmas.List.{reverse-append}
use Rattle.src_tree.specs.Prelude.{Tree, expr_tree}
use Rattle.src_tree.specs.declared.trees.Expr.{Expr}
use Rattle.src_procs.specs.declared.expanding.Made.{Made}
use Rattle.procs_tree.specs.declared.trees.Proc.{Proc}
use Rattle.procs_tree.specs.Prelude.{Names, Found, found, naming_all, Inlined, Renaming, kept_name, new_name, no_name, AreNumbered, found_before, procedure_of, trees_of, Call, Parameter, Procedure}
use Rattle.procs_pruning.specs.Prelude.{LiveBody, IsPruned}
use Rattle.src_procs.specs.Prelude.{Binding, Held, Pending, Rest, Return, Scope, begun, expanded_one, finished, looked_up, returned, with_locals, with_made, with_parameters, with_scope, own_held, scopes_of, unbound}
use Rattle.src_procs.proofs.Bindings.{begun_made}
use Rattle.src_procs.proofs.OneStep.{none_expanded, some_expanded}
use Rattle.procs_tree.proofs.NumbersAdded.{found_so}
use Rattle.src_procs.proofs.OwnSteps.{all_callable, own_scope}
use Rattle.src_procs.specs.declared.scopes.Scope as scopes

pub none_given : (caller : Renaming) (b : Binding) (ps : List Parameter) (es : List Tree) → es ≡ []
    → with_parameters caller b ps es ≡ b
none_given caller b [] es is = refl
none_given caller b (p ∷ ps) [] is = refl
none_given caller b (p ∷ ps) (e ∷ es) is = absurd (cc)

pub one_given : (whole left : List Expr) (e : Expr) → whole ≡ left ++ e ∷ []
    → trees_of (reverse whole) ≡ expr_tree e ∷ trees_of (reverse left)
one_given whole left e is =
    ap (λ (es : List Expr). trees_of (reverse es)) is ∙ ap trees_of (reverse-append left (e ∷ []))

-- a call of nothing
pub own_none_called : (procs : List Proc) (name : List ℕ) (es : List Tree) (m : Made)
    → found (own_scope procs).callable name ≡ None → own_held procs m ≡ expanded_one (Call name es) (own_held procs m)
own_none_called procs name es m none =
    none_expanded name es (own_scope procs) (record (own_held procs m) { scopes = [] }) none

-- what is held when a call begins
pub own_begun : (procs : List Proc) (p : Procedure) (earlier : List Procedure) (es : List Tree) (m : Made) (b : Binding)
    (h : Held) → b ≡ with_locals (with_parameters kept_name (unbound m) p.parameters es) p.locals
    → h ≡ record {
      scopes = record { callable = earlier; names = looked_up b.bound } ∷ own_scope procs ∷ [];
      open_blocks = b.open_blocks;
      labels = b.labels;
    }
    → h ≡ begun p earlier kept_name es (own_held procs m)
own_begun procs p earlier es m b h is begins =
    begins
    ∙ begun_made p earlier kept_name es (own_scope procs ∷ []) (own_held procs m).open_blocks
    (own_held procs m).labels b is

-- the scopes when a call begins
pub own_scoped : (procs : List Proc) (n : ℕ) (outer : List scopes.Scope) (m : Made) (inner : Scope) (one two : Held)
    → length procs ≤ n → outer ≡ []
    → one ≡ with_scope (record { callable = reverse (take n (map procedure_of procs)); names = kept_name })
    (record (own_held procs m) { scopes = scopes_of procs outer })
    → two ≡ with_scope inner one
    → two ≡ record (own_held procs m) { scopes = inner ∷ own_scope procs ∷ [] }
own_scoped procs n outer m inner one two le none first second =
    second
    ∙ ap (with_scope inner) (first
    ∙ (ap (λ (ps : List Procedure). with_scope (record { callable = reverse ps; names = kept_name })
    (record (own_held procs m) { scopes = scopes_of procs outer })) (all_callable procs n le)
    ∙ ap (λ (ss : List scopes.Scope). with_scope (own_scope procs)
    (record (own_held procs m) { scopes = scopes_of procs ss })) none))

-- the procedure of a name, of all
pub own_found : (procs : List Proc) (numbers : Names) → AreNumbered (map procedure_of procs) numbers
    → (n : ℕ) (x name : List ℕ) (o : Option Found) → length procs ≤ n → x ≡ name
    → o ≡ found_before (map procedure_of procs) n (numbers x) → found (own_scope procs).callable name ≡ o
own_found procs numbers numbered n x name o le is e =
    ap (λ (ps : List Procedure). found (reverse ps) name) (sym (all_callable procs n le))
    ∙ found_so (map procedure_of procs) numbers numbered n n x name o refl is e

-- a call of a procedure
pub own_called : (procs : List Proc) (name : List ℕ) (es : List Tree) (m n : Made) (f : Found) (body : LiveBody)
    (start done : Held) (waiting : List Pending) → found (own_scope procs).callable name ≡ Some f
    → IsPruned f.earlier f.procedure body → start ≡ begun f.procedure f.earlier kept_name es (own_held procs m)
    → waiting ≡ Rest body.statements ∷ Return ∷ [] → done ≡ finished waiting start
    → own_held procs n ≡ record done { scopes = own_scope procs ∷ [] }
    → own_held procs n ≡ expanded_one (Call name es) (own_held procs m)
own_called procs name es m n f body start done waiting is pruned begins waits ends same =
    let p = f.procedure in
    let x = own_held procs m in
    let own = begun p f.earlier kept_name es x in
    let code = pruned.same (naming_all new_name no_name kept_name (length x.labels) p.parameters es p.locals)
    (length own.labels) in
    same
    ∙ ap (λ (h : Held). record h { scopes = own_scope procs ∷ [] })
    (ends
    ∙ (ap (λ (ps : List Pending). finished ps start) waits
    ∙ (ap (λ (h : Held). finished (Rest body.statements ∷ Return ∷ []) h) begins
    ∙ (ap (λ (i : Inlined). returned (with_made own i)) code
    ∙ some_expanded name es (own_scope procs) (record x { scopes = [] }) f is))))
