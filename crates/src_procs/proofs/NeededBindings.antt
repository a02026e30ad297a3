-- A call that binds only what its procedure needs does what the whole call does.
use Rattle.std.proofs.Common.{◌≡◌, ℕ, ◌+◌, ◌<◌, ◌≤◌, pos, Bool, true, false, cond, inl, inr, List, [], ◌∷◌, ◌++◌, length, drop, get_or, Option, Some, None, refl, sym, ap, ◌∙◌, subst, arith}
use Rattle.std.specs.Prelude.{bytes_eq, is_some, unwrap_or}
use Rattle.std.specs.Option.{option_or}
use Rattle.std.proofs.lemmas.Bool.{cases_lt}
use Rattle.std.proofs.lemmas.List.{drop_all, drop_more}
use Rattle.std.proofs.lemmas.Slice.Eq.{bytes_eq-Decides}
use Rattle.gr_word.specs.declared.variables.Label.{Label}
use Rattle.src_tree.specs.declared.trees.Decl.{Decl}
use Rattle.src_tree.specs.Prelude.{Tree, Number}
use Rattle.procs_tree.specs.Prelude.{Names, Found, found, naming_all, named_by, Renaming, Inlined, inlined_all, inlines_of, new_name, no_name, renamed, Call, Parameter, OfValue, OfVariable, Procedure}
use Rattle.procs_pruning.specs.Prelude.{AgreeOn, LiveBody, Placed, argument_at, first_tree, keep_where, keeps, kept_from, IsPruned}
use Rattle.src_procs.specs.Prelude.{Binding, Bound, Held, Pending, Rest, Return, Scope, begun, bound_after, expanded, expanded_one, finished, looked_up, nothing_bound, put, returned, statements_of, with_alias, with_locals, with_made, with_new, with_parameter, with_parameters, with_scope, begun_by, with_kept}
use Rattle.src_procs.specs.Begun.{with_argument}
use Rattle.src_procs.proofs.Bindings.{begun_made}
use Rattle.src_procs.proofs.OneStep.{held, some_expanded}
use Rattle.src_tree.specs.Trees as plain

-- two bindings append the same statements, and bind these names alike
record Alike (needed : Names) (b c : Binding) : Type 0 where
  bound : (y : List ℕ) → is_some (needed y) ≡ true → b.bound y ≡ c.bound y
  blocks : b.open_blocks ≡ c.open_blocks
  labels : b.labels ≡ c.labels

after_same : (needed : Names) (b c : Bound) (name to other : List ℕ) → to ≡ other
    → ((y : List ℕ) → is_some (needed y) ≡ true → b y ≡ c y)
    → (y : List ℕ) → is_some (needed y) ≡ true → bound_after b name to y ≡ bound_after c name other y
after_same needed b c name to other e h y is =
    ap (λ (o : Option (List ℕ)). option_or o (cond (bytes_eq y name) (Some to) None)) (h y is)
    ∙ ap (λ (z : List ℕ). option_or (c y) (cond (bytes_eq y name) (Some z) None)) e

new_alike : (needed : Names) (b c : Binding) (label : Label) (name : List ℕ) (value : Tree) → Alike needed b c
    → Alike needed (with_new b label name value) (with_new c label name value)
new_alike needed b c label name value h =
    let same : new_name (length b.labels) ≡ new_name (length c.labels) =
    ap (λ (ls : List Label). new_name (length ls)) h.labels in
    record {
      bound = after_same needed b.bound c.bound name (new_name (length b.labels)) (new_name (length c.labels)) same
          h.bound;
      blocks = ap (λ (n : List ℕ). put (plain.SetVariable n value ∷ []) b.open_blocks) same
          ∙ ap (put (plain.SetVariable (new_name (length c.labels)) value ∷ [])) h.blocks;
      labels = ap (λ (ls : List Label). ls ++ label ∷ []) h.labels;
    }

parameter_alike : (needed : Names) (caller : Renaming) (b c : Binding) (p : Parameter) (e : Tree) → Alike needed b c
    → Alike needed (with_parameter caller b p e) (with_parameter caller c p e)
parameter_alike needed caller b c (OfValue label name) e h = new_alike needed b c label name (renamed caller e) h
parameter_alike needed caller b c (OfVariable name) e h = record {
  bound = after_same needed b.bound c.bound name (named_by no_name caller e) (named_by no_name caller e) refl h.bound;
  blocks = h.blocks;
  labels = h.labels;
}

locals_alike : (needed : Names) (ds : List Decl) (b c : Binding) → Alike needed b c
    → Alike needed (with_locals b ds) (with_locals c ds)
locals_alike needed [] b c h = h
locals_alike needed (d ∷ ds) b c h =
    locals_alike needed ds (with_new b d.label d.name (Number (pos 0))) (with_new c d.label d.name (Number (pos 0)))
    (new_alike needed b c d.label d.name (Number (pos 0)) h)

unbound_there : (o : Option (List ℕ)) (b : Bool) (to : List ℕ) → b ≡ false → o ≡ option_or o (cond b (Some to) None)
unbound_there (Some x) b to e = refl
unbound_there None false to e = refl
unbound_there None true to e = absurd (cc)

other_name : (needed : Names) (name y : List ℕ) → is_some (needed name) ≡ false → is_some (needed y) ≡ true
    → (b : Bool) → (b ≡ true → y ≡ name) → b ≡ false
other_name needed name y never here false h = refl
other_name needed name y never here true h =
    absurd (let f : true ≡ false = sym here ∙ (ap (λ (z : List ℕ). is_some (needed z)) (h refl) ∙ never) in cc)

-- a name that isn't needed
alias_skipped : (needed : Names) (b c : Binding) (name to : List ℕ) → is_some (needed name) ≡ false
    → Alike needed b c → Alike needed b (with_alias c name to)
alias_skipped needed b c name to never h = record {
  bound = λ y is. h.bound y is
      ∙ unbound_there (c.bound y) (bytes_eq y name) to
      (other_name needed name y never is (bytes_eq y name) ((bytes_eq-Decides y name).0));
  blocks = h.blocks;
  labels = h.labels;
}

-- no arguments are left
none_left : (needed : Names) (caller : Renaming) (all : List Tree) (ps : List Parameter) (i : ℕ) (b : Binding)
    → length all ≤ i → with_kept caller b (kept_from needed i ps) all ≡ b
none_left needed caller all [] i b past = refl
none_left needed caller all (p ∷ ps) i b past =
    by (keeps needed p) (none_left needed caller all ps (i + 1) b (omega (arith, past)))
  where
    by : (t : Bool) → with_kept caller b (kept_from needed (i + 1) ps) all ≡ b
        → with_kept caller b (keep_where t (i, p) (kept_from needed (i + 1) ps)) all ≡ b
    by false e = e
    by true e =
        ap (λ (o : Option Tree). with_kept caller (with_argument caller b p o) (kept_from needed (i + 1) ps) all)
        (ap first_tree (drop_all i all past)) ∙ e

one_kept : (needed : Names) (caller : Renaming) (all : List Tree) (i : ℕ) (p : Parameter) (ps : List Parameter)
    (b c : Binding) → i < length all → Alike needed b c
    → ((x y : Binding) → Alike needed x y → Alike needed (with_kept caller x (kept_from needed (i + 1) ps) all)
    (with_parameters caller y ps (drop (i + 1) all)))
    → Alike needed (with_kept caller b (kept_from needed i (p ∷ ps)) all)
    (with_parameters caller (with_parameter caller c p (get_or all i (Number (pos 0)))) ps (drop (i + 1) all))
one_kept needed caller all i p ps b c lt h next = by p (keeps needed p) refl
  where
    e : Tree
    e = get_or all i (Number (pos 0))

    there : argument_at all i ≡ Some (get_or all i (Number (pos 0)))
    there = ap first_tree (drop_more all i (Number (pos 0)) lt)

    taken : (q : Parameter) → Alike needed
        (with_kept caller (with_argument caller b q (argument_at all i)) (kept_from needed (i + 1) ps) all)
        (with_parameters caller (with_parameter caller c q (get_or all i (Number (pos 0)))) ps (drop (i + 1) all))
    taken q = subst (λ (o : Option Tree). Alike needed
        (with_kept caller (with_argument caller b q o) (kept_from needed (i + 1) ps) all)
        (with_parameters caller (with_parameter caller c q (get_or all i (Number (pos 0)))) ps (drop (i + 1) all)))
        (sym there) (next (with_parameter caller b q (get_or all i (Number (pos 0))))
        (with_parameter caller c q (get_or all i (Number (pos 0))))
        (parameter_alike needed caller b c q (get_or all i (Number (pos 0))) h))

    by : (q : Parameter) (t : Bool) → keeps needed q ≡ t → Alike needed
        (with_kept caller b (keep_where t (i, q) (kept_from needed (i + 1) ps)) all)
        (with_parameters caller (with_parameter caller c q (get_or all i (Number (pos 0)))) ps (drop (i + 1) all))
    by q true is = taken q
    by (OfValue label name) false is = absurd (cc)
    by (OfVariable name) false is =
        next b (with_alias c name (named_by no_name caller (get_or all i (Number (pos 0)))))
        (alias_skipped needed b c name (named_by no_name caller (get_or all i (Number (pos 0)))) is h)

kept_alike : (needed : Names) (caller : Renaming) (all : List Tree) (ps : List Parameter) (i : ℕ) (b c : Binding)
    → Alike needed b c
    → Alike needed (with_kept caller b (kept_from needed i ps) all) (with_parameters caller c ps (drop i all))
kept_alike needed caller all [] i b c h = h
kept_alike needed caller all (p ∷ ps) i b c h =
    elim (cases_lt i (length all)) [
      | inl lt ↦ subst (λ (es : List Tree). Alike needed (with_kept caller b (kept_from needed i (p ∷ ps)) all)
          (with_parameters caller c (p ∷ ps) es)) (sym (drop_more all i (Number (pos 0)) lt))
          (one_kept needed caller all i p ps b c lt h (kept_alike needed caller all ps (i + 1)))
      | inr past ↦ subst (λ (es : List Tree). Alike needed (with_kept caller b (kept_from needed i (p ∷ ps)) all)
          (with_parameters caller c (p ∷ ps) es)) (sym (drop_all i all past))
          (subst (λ (x : Binding). Alike needed x c) (sym (none_left needed caller all (p ∷ ps) i b past)) h)
    ]

-- the expansion of a call, by the statements that are pending and the state when it begins
pub called_so : (name : List ℕ) (arguments : List Tree) (scope : Scope) (x y : Held) (f : Found)
    (waiting next : List Pending) (body : LiveBody) → found scope.callable name ≡ Some f
    → IsPruned f.earlier f.procedure body
    → next ≡ Rest body.statements ∷ Return ∷ waiting
    → y ≡ begun_by (with_locals (with_kept scope.names
    (record { bound = nothing_bound; open_blocks = x.open_blocks; labels = x.labels }) body.kept arguments)
    f.procedure.locals) f.earlier (with_scope scope x)
    → finished next y ≡ finished waiting (expanded_one (Call name arguments) (with_scope scope x))
called_so name arguments scope x y f waiting next body is pruned waits begins =
    let p = f.procedure in
    let start : Binding = record { bound = nothing_bound; open_blocks = x.open_blocks; labels = x.labels } in
    let less = with_locals (with_kept scope.names start body.kept arguments) p.locals in
    let whole = with_locals (with_parameters scope.names start p.parameters arguments) p.locals in
    let same : Alike body.needed start start = record { bound = λ z t. refl; blocks = refl; labels = refl } in
    let alike : Alike body.needed less whole =
    locals_alike body.needed p.locals (with_kept scope.names start body.kept arguments)
    (with_parameters scope.names start p.parameters arguments)
    (subst (λ (ks : List Placed). Alike body.needed (with_kept scope.names start ks arguments)
    (with_parameters scope.names start p.parameters arguments)) (sym pruned.kept)
    (kept_alike body.needed scope.names arguments p.parameters 0 start start same)) in
    let agree : AgreeOn body.needed (looked_up less.bound) (looked_up whole.bound) =
    λ z t. ap (λ (o : Option (List ℕ)). unwrap_or o no_name) (alike.bound z t) in
    let scopes = scope ∷ x.scopes in
    let inlines = inlines_of f.earlier in
    let outer : Inlined → List Label → List (List plain.Statement) → Held =
    λ i labels blocks. held scopes (put (statements_of i.block) blocks) (labels ++ i.labels) in
    let code : Renaming → ℕ → Inlined = λ names n. inlined_all inlines names body.statements n in
    let names = looked_up whole.bound in
    let own = begun p f.earlier scope.names arguments (with_scope scope x) in
    ap (λ ps. finished ps y) waits
    ∙ (ap (λ (h : Held). finished waiting (returned (expanded body.statements h))) begins
    ∙ (ap (λ (i : Inlined). finished waiting (outer i less.labels less.open_blocks))
    (pruned.needs (looked_up less.bound) names agree (length less.labels))
    ∙ (ap (λ (ls : List Label). finished waiting (outer (code names (length ls)) ls less.open_blocks)) alike.labels
    ∙ (ap (λ (bs : List (List plain.Statement)). finished waiting (outer (code names (length whole.labels)) whole.labels bs))
    alike.blocks
    ∙ (ap (λ (h : Held). finished waiting (returned (expanded body.statements h)))
    (begun_made p f.earlier scope.names arguments scopes x.open_blocks x.labels whole refl)
    ∙ (ap (λ (i : Inlined). finished waiting (returned (with_made own i)))
    (pruned.same (naming_all new_name no_name scope.names (length x.labels) p.parameters arguments p.locals)
    (length own.labels))
    ∙ ap (finished waiting) (some_expanded name arguments scope x f is)))))))

-- a call begins with what was bound for it
pub begun_so : (earlier : List Procedure) (scope : Scope) (x first second : Held) (b made : Binding) → made ≡ b
    → first ≡ held (scope ∷ x.scopes) made.open_blocks made.labels
    → second ≡ with_scope (record { callable = earlier; names = looked_up made.bound }) first
    → second ≡ begun_by b earlier (with_scope scope x)
begun_so earlier scope x first second b made is one two =
    two
    ∙ (ap (with_scope (record { callable = earlier; names = looked_up made.bound })) one
    ∙ ap (λ (c : Binding). begun_by c earlier (with_scope scope x)) is)
