-- A call's names, its assignments and its labels, made one by one.
use Rattle.std.proofs.Common.{◌≡◌, ℕ, ◌+◌, pos, Bool, true, false, Option, Some, None, cond, List, [], ◌∷◌, ◌++◌, length, refl, sym, ap, ◌∙◌, subst, append_assoc}
use Rattle.std.specs.Prelude.{bytes_eq, unwrap_or, is_some}
use Rattle.std.specs.Option.{option_or}
use Rattle.std.specs.Borrow.{Bor}
use Rattle.std.specs.BTreeMap.{BTreeMap, get, is_at}
use Rattle.std.proofs.lemmas.Slice.Eq.{bytes_eq-Decides}
use Rattle.gr_base.proofs.NameMaps.{key_cmp, name_added}
use Rattle.gr_base.specs.Prelude.{found_under}
use Rattle.procs_tree.proofs.NumbersAdded.{flipped}
use Rattle.std.proofs.lemmas.List.{append-nil, length_push}
use Rattle.gr_word.specs.declared.variables.Label.{Label}
use Rattle.src_tree.specs.declared.trees.Decl.{Decl}
use Rattle.src_tree.specs.Prelude.{Tree, Number}
use Rattle.std.proofs.Math.Path.{fun_ext}
use Rattle.procs_tree.specs.Prelude.{Parameter, OfValue, OfVariable, Procedure, naming_locals, naming_all, named_by, new_values, new_labels, Renaming, renamed, assigned, new_name, no_name}
use Rattle.src_procs.specs.Prelude.{Binding, Bound, bound_after, nothing_bound, with_new, with_alias, with_locals, with_parameters, looked_up, statements_of, put, Scope, begun}
use Rattle.src_procs.proofs.OneStep.{put_nothing, put_both, held, held_same}
use Rattle.src_tree.specs.Trees as plain

-- names before others
abbrev onto : Bound → Renaming → Renaming
onto bound rest y = unwrap_or (bound y) (rest y)

first_of : (o : Option (List ℕ)) (b : Bool) (to other : List ℕ)
    → unwrap_or (option_or o (cond b (Some to) None)) other ≡ unwrap_or o (cond b to other)
first_of None true to other = refl
first_of None false to other = refl
first_of (Some x) b to other = refl

onto_push : (bound : Bound) (name to : List ℕ) (rest : Renaming) (y : List ℕ)
    → onto (bound_after bound name to) rest y ≡ onto bound (λ z. cond (bytes_eq z name) to (rest z)) y
onto_push bound name to rest y = first_of (bound y) (bytes_eq y name) to (rest y)

-- what comes of a binding: names, statements and labels
pub record Binds (b : Binding) (names : Renaming) (blocks : List (List plain.Statement)) (labels : List Label)
    : Type 0 where
  pub names_are : (y : List ℕ) → looked_up b.bound y ≡ names y
  pub blocks_are : b.open_blocks ≡ blocks
  pub labels_are : b.labels ≡ labels

binds_at : {b : Binding} {names other : Renaming} {blocks more : List (List plain.Statement)}
    {labels others : List Label} → ((y : List ℕ) → names y ≡ other y) → blocks ≡ more → labels ≡ others
    → Binds b names blocks labels → Binds b other more others
binds_at e f g h = record {
  names_are = λ y. h.names_are y ∙ e y;
  blocks_are = h.blocks_are ∙ f;
  labels_are = h.labels_are ∙ g;
}

pushed_long : (labels : List Label) (label : Label) → length labels + 1 ≡ length (labels ++ label ∷ [])
pushed_long labels label = sym (length_push labels label)

abbrev no_name_of : Renaming
no_name_of y = y

locals_bind : (b : Binding) (locals : List Decl)
    → Binds (with_locals b locals) (onto b.bound (naming_locals new_name no_name (length b.labels) locals))
    (put (statements_of (assigned no_name_of (length b.labels) (new_values [] [] locals))) b.open_blocks)
    (b.labels ++ new_labels [] [] locals)
locals_bind b [] = record {
  names_are = λ y. refl;
  blocks_are = sym (put_nothing b.open_blocks);
  labels_are = sym (append-nil b.labels);
}
locals_bind b (d ∷ ds) =
    let next = with_new b d.label d.name (Number (pos 0)) in
    let long = pushed_long b.labels d.label in
    binds_at
    (λ y. onto_push b.bound d.name (new_name (length b.labels))
    (naming_locals new_name no_name (length (b.labels ++ d.label ∷ [])) ds) y
    ∙ ap (λ n. onto b.bound (λ z. cond (bytes_eq z d.name) (new_name (length b.labels))
    (naming_locals new_name no_name n ds z)) y) (sym long))
    (ap (λ n. put (statements_of (assigned no_name_of n (new_values [] [] ds)))
    (put (plain.SetVariable (new_name (length b.labels)) (Number (pos 0)) ∷ []) b.open_blocks)) (sym long)
    ∙ sym (put_both (plain.SetVariable (new_name (length b.labels)) (Number (pos 0)) ∷ [])
    (statements_of (assigned no_name_of (length b.labels + 1) (new_values [] [] ds))) b.open_blocks))
    (append_assoc b.labels (d.label ∷ []) (new_labels [] [] ds))
    (locals_bind next ds)

assigned_zeros : (caller : Renaming) (n : ℕ) (locals : List Decl)
    → assigned no_name_of n (new_values [] [] locals) ≡ assigned caller n (new_values [] [] locals)
assigned_zeros caller n [] = refl
assigned_zeros caller n (d ∷ ds) =
    ap (plain.Then (plain.SetVariable (new_name n) (Number (pos 0)))) (assigned_zeros caller (n + 1) ds)

no_arguments : (arguments : List Tree) (locals : List Decl)
    → new_values [] [] locals ≡ new_values [] arguments locals
no_arguments arguments [] = refl
no_arguments arguments (d ∷ ds) = refl

no_labels : (arguments : List Tree) (locals : List Decl) → new_labels [] [] locals ≡ new_labels [] arguments locals
no_labels arguments [] = refl
no_labels arguments (d ∷ ds) = refl

only_locals : (caller : Renaming) (b : Binding) (arguments : List Tree) (locals : List Decl)
    → Binds (with_locals b locals) (onto b.bound (naming_locals new_name no_name (length b.labels) locals))
    (put (statements_of (assigned caller (length b.labels) (new_values [] arguments locals))) b.open_blocks)
    (b.labels ++ new_labels [] arguments locals)
only_locals caller b arguments locals =
    binds_at (λ y. refl)
    (ap (λ (z : plain.Block). put (statements_of z) b.open_blocks) (assigned_zeros caller (length b.labels) locals)
    ∙ ap (λ es. put (statements_of (assigned caller (length b.labels) es)) b.open_blocks)
    (no_arguments arguments locals))
    (ap (λ ls. b.labels ++ ls) (no_labels arguments locals)) (locals_bind b locals)

none_values : (p : Parameter) (ps : List Parameter) (locals : List Decl)
    → new_values [] [] locals ≡ new_values (p ∷ ps) [] locals
none_values p ps [] = refl
none_values p ps (d ∷ ds) = refl

none_labels : (p : Parameter) (ps : List Parameter) (locals : List Decl)
    → new_labels [] [] locals ≡ new_labels (p ∷ ps) [] locals
none_labels p ps [] = refl
none_labels p ps (d ∷ ds) = refl

none_left : (caller : Renaming) (b : Binding) (p : Parameter) (ps : List Parameter) (locals : List Decl)
    → Binds (with_locals b locals) (onto b.bound (naming_locals new_name no_name (length b.labels) locals))
    (put (statements_of (assigned caller (length b.labels) (new_values (p ∷ ps) [] locals))) b.open_blocks)
    (b.labels ++ new_labels (p ∷ ps) [] locals)
none_left caller b p ps locals =
    binds_at (λ y. refl)
    (ap (λ (z : plain.Block). put (statements_of z) b.open_blocks) (assigned_zeros caller (length b.labels) locals)
    ∙ ap (λ es. put (statements_of (assigned caller (length b.labels) es)) b.open_blocks) (none_values p ps locals))
    (ap (λ ls. b.labels ++ ls) (none_labels p ps locals)) (locals_bind b locals)

-- the first part binds, and then the locals do
pub parameters_bind : (caller : Renaming) (b : Binding) (parameters : List Parameter) (arguments : List Tree)
    (locals : List Decl)
    → Binds (with_locals (with_parameters caller b parameters arguments) locals)
    (onto b.bound (naming_all new_name no_name caller (length b.labels) parameters arguments locals))
    (put (statements_of (assigned caller (length b.labels) (new_values parameters arguments locals))) b.open_blocks)
    (b.labels ++ new_labels parameters arguments locals)
parameters_bind caller b [] arguments locals = only_locals caller b arguments locals
parameters_bind caller b (p ∷ ps) [] locals = none_left caller b p ps locals
parameters_bind caller b (OfValue label name ∷ ps) (e ∷ es) locals =
    let next = with_new b label name (renamed caller e) in
    let long = pushed_long b.labels label in
    binds_at
    (λ y. onto_push b.bound name (new_name (length b.labels))
    (naming_all new_name no_name caller (length (b.labels ++ label ∷ [])) ps es locals) y
    ∙ ap (λ n. onto b.bound (λ z. cond (bytes_eq z name) (new_name (length b.labels))
    (naming_all new_name no_name caller n ps es locals z)) y) (sym long))
    (ap (λ n. put (statements_of (assigned caller n (new_values ps es locals)))
    (put (plain.SetVariable (new_name (length b.labels)) (renamed caller e) ∷ []) b.open_blocks)) (sym long)
    ∙ sym (put_both (plain.SetVariable (new_name (length b.labels)) (renamed caller e) ∷ [])
    (statements_of (assigned caller (length b.labels + 1) (new_values ps es locals))) b.open_blocks))
    (append_assoc b.labels (label ∷ []) (new_labels ps es locals))
    (parameters_bind caller next ps es locals)
parameters_bind caller b (OfVariable name ∷ ps) (e ∷ es) locals =
    binds_at
    (λ y. onto_push b.bound name (named_by no_name caller e)
    (naming_all new_name no_name caller (length b.labels) ps es locals) y) refl refl
    (parameters_bind caller (with_alias b name (named_by no_name caller e)) ps es locals)

-- the start of a call, once its names are bound
pub begun_made : (p : Procedure) (earlier : List Procedure) (caller : Renaming) (arguments : List Tree)
    (scopes : List Scope) (blocks : List (List plain.Statement)) (labels : List Label) (made : Binding)
    → made ≡ with_locals (with_parameters caller (record { bound = nothing_bound; open_blocks = blocks; labels = labels })
    p.parameters arguments) p.locals
    → held (record { callable = earlier; names = looked_up made.bound } ∷ scopes) made.open_blocks made.labels
    ≡ begun p earlier caller arguments (held scopes blocks labels)
begun_made p earlier caller arguments scopes blocks labels made is =
    let start : Binding = record { bound = nothing_bound; open_blocks = blocks; labels = labels } in
    let h : Binds made (onto nothing_bound (naming_all new_name no_name caller (length labels) p.parameters arguments p.locals))
    (put (statements_of (assigned caller (length labels) (new_values p.parameters arguments p.locals))) blocks)
    (labels ++ new_labels p.parameters arguments p.locals) =
    subst (λ b. Binds b
    (onto nothing_bound (naming_all new_name no_name caller (length labels) p.parameters arguments p.locals))
    (put (statements_of (assigned caller (length labels) (new_values p.parameters arguments p.locals))) blocks)
    (labels ++ new_labels p.parameters arguments p.locals)) (sym is)
    (parameters_bind caller start p.parameters arguments p.locals) in
    ap (λ (n : Renaming). held (record { callable = earlier; names = n } ∷ scopes) made.open_blocks made.labels)
    (fun_ext h.names_are)
    ∙ held_same (record {
      callable = earlier;
      names = naming_all new_name no_name caller (length labels) p.parameters arguments p.locals;
    } ∷ scopes) _ _ _ _ h.blocks_are h.labels_are

added_once : (o : Option (List ℕ)) (b : Bool) (to : List ℕ) → (b ≡ true → is_some o ≡ false)
    → cond b (Some to) o ≡ option_or o (cond b (Some to) None)
added_once None true to h = refl
added_once None false to h = refl
added_once (Some x) false to h = refl
added_once (Some x) true to h = let e = h refl in absurd (cc)

-- a name that was added to the map
pub bound_added : (m n : BTreeMap (Bor (List ℕ)) (List ℕ)) (k : Bor (List ℕ)) (to : List ℕ)
    → is_some (found_under m k.now) ≡ false
    → ((q : Bor (List ℕ)) → get key_cmp n q ≡ cond (is_at (key_cmp k) q) (Some to) (get key_cmp m q))
    → found_under n ≡ bound_after (found_under m) k.now to
bound_added m n k to new h =
    fun_ext (λ y. name_added m n k to h y
    ∙ (ap (λ b. cond b (Some to) (found_under m y)) (flipped k.now y)
    ∙ added_once (found_under m y) (bytes_eq y k.now) to
    (λ e. ap (λ z. is_some (found_under m z)) ((bytes_eq-Decides y k.now).0 e) ∙ new)))
