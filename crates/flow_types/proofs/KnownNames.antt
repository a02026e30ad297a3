-- Names in a map, as a context; and the names of declarations, read in sequence.
use Rattle.std.proofs.Common.{◌≡◌, ℕ, ◌+◌, Bool, true, false, cond, List, [], ◌∷◌, ◌++◌, length, Option, Some, None, Result, Ok, Err, refl, sym, ap, subst, append_assoc, arith}
use Rattle.std.specs.Prelude.{is_some, if◌then◌else◌}
use Rattle.std.specs.Option.{option_or}
use Rattle.std.specs.Borrow.{Bor}
use Rattle.std.specs.BTreeMap.{BTreeMap, get, is_at}
use Rattle.std.proofs.Math.Path.{fun_ext}
use Rattle.std.proofs.lemmas.List.{append-nil}
use Rattle.gr_base.proofs.NameMaps.{key_cmp, name_added}
use Rattle.gr_word.specs.declared.variables.Label.{Label}
use Rattle.gr_word.specs.declared.variables.Shape.{Shape}
use Rattle.src_tree.specs.declared.trees.Decl.{Decl}
use Rattle.src_tree.specs.declared.faults.TypeError.{TypeError}
use Rattle.src_tree.specs.declared.faults.TypeError.TheVariants.{TwiceDeclared}
use Rattle.src_tree.specs.Prelude.{Context, label_and_shape, context_of, shown_place, where_true, twice_fault}
use Rattle.gr_base.specs.Prelude.{found_under}
use Rattle.flow_types.specs.Prelude.{with_name, names_gathered}
use Rattle.src_tree.proofs.Contexts.{declared_last}
use Rattle.src_tree.proofs.DeclaredOnce.{none_of}

-- a name that was added to the map
pub with_one : (m n : BTreeMap (Bor (List ℕ)) (Label × Shape)) (k : Bor (List ℕ)) (kind : Label × Shape)
    → ((q : Bor (List ℕ)) → get key_cmp n q ≡ cond (is_at (key_cmp k) q) (Some kind) (get key_cmp m q))
    → found_under n ≡ with_name (found_under m) k.now kind
with_one m n k kind h = fun_ext (name_added m n k kind h)

-- one more declaration, if its name is new
context_last : (ds : List Decl) (d : Decl) → context_of ds d.name ≡ None
    → with_name (context_of ds) d.name (label_and_shape d) ≡ context_of (ds ++ d ∷ [])
context_last ds d new = fun_ext (declared_last ds d new)

-- the names of all declarations, or the error
abbrev pub Says : Option TypeError → List Decl → Result Context TypeError → Type 0
Says fault decls (Ok known) = (fault ≡ None) × (known ≡ context_of decls)
Says fault decls (Err e) = fault ≡ Some e

split : (b : Bool) (e : TypeError) (fault : Option TypeError) (decls : List Decl) (rest : Result Context TypeError)
    → (b ≡ false → Says fault decls rest)
    → Says (option_or (where_true b e) fault) decls (if b then Err e else rest)
split true e fault decls rest h = refl
split false e fault decls rest h = h refl

one_longer : (ds : List Decl) (d : Decl) → length (ds ++ d ∷ []) ≡ length ds + 1
one_longer [] d = refl
one_longer (x ∷ ds) d = let h = one_longer ds d in omega arith

-- the result of reading declarations after others
pub gathers : (before ds : List Decl)
    → Says (twice_fault before ds) (before ++ ds) (names_gathered (context_of before) (length before) ds)
gathers before [] = (refl, ap context_of (sym (append-nil before)))
gathers before (d ∷ ds) =
    split (is_some (context_of before d.name)) (TwiceDeclared (shown_place (length before)))
    (twice_fault (before ++ d ∷ []) ds) (before ++ d ∷ ds)
    (names_gathered (with_name (context_of before) d.name (label_and_shape d)) (length before + 1) ds)
    (λ e. subst (λ decls. Says (twice_fault (before ++ d ∷ []) ds) decls
    (names_gathered (with_name (context_of before) d.name (label_and_shape d)) (length before + 1) ds))
    (append_assoc before (d ∷ []) ds)
    (subst (λ known. Says (twice_fault (before ++ d ∷ []) ds) ((before ++ d ∷ []) ++ ds)
    (names_gathered known (length before + 1) ds)) (sym (context_last before d (none_of (context_of before d.name) e)))
    (subst (λ n. Says (twice_fault (before ++ d ∷ []) ds) ((before ++ d ∷ []) ++ ds)
    (names_gathered (context_of (before ++ d ∷ [])) n ds)) (one_longer before d) (gathers (before ++ d ∷ []) ds))))
