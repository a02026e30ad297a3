-- No declaration has an error exactly if each name is declared once.
use Rattle.std.proofs.Common.{◌≡◌, false, List, [], ◌∷◌, ◌++◌, length, Option, Some, None, refl}
use Rattle.std.specs.Prelude.{is_some}
use Rattle.gr_base.specs.Prelude.{EachAfter}
use Rattle.src_tree.specs.declared.trees.Decl.{Decl}
use Rattle.src_tree.specs.declared.faults.TypeError.TheVariants.{TwiceDeclared}
use Rattle.src_tree.specs.Prelude.{context_of, shown_place, where_true, twice_fault}
use Rattle.src_tree.proofs.Chains.{neither, chained, not_true, no_fault}

-- an option that isn't Some is None
pub none_of : {X : Type 0} (o : Option X) → is_some o ≡ false → o ≡ None
none_of None e = refl
none_of (Some x) e = absurd cc

pub none_back : {X : Type 0} (o : Option X) → o ≡ None → is_some o ≡ false
none_back None e = refl
none_back (Some x) e = absurd cc

-- if no declaration has an error, each name is declared once
pub declared_once : (before ds : List Decl) → twice_fault before ds ≡ None
    → EachAfter (λ b d. context_of b d.name ≡ None) before ds
declared_once before [] e = tt
declared_once before (d ∷ ds) e =
    let n = neither (where_true (is_some (context_of before d.name)) (TwiceDeclared (shown_place (length before))))
    (twice_fault (before ++ d ∷ []) ds) e in
    (none_of (context_of before d.name) (not_true _ _ n.first), declared_once (before ++ d ∷ []) ds n.second)

-- if each name is declared once, no declaration has an error
pub once_back : (before ds : List Decl) → EachAfter (λ b d. context_of b d.name ≡ None) before ds
    → twice_fault before ds ≡ None
once_back before [] t = refl
once_back before (d ∷ ds) t =
    chained (where_true (is_some (context_of before d.name)) (TwiceDeclared (shown_place (length before))))
    (twice_fault (before ++ d ∷ []) ds)
    (no_fault _ _ (none_back (context_of before d.name) t.0)) (once_back (before ++ d ∷ []) ds t.1)
