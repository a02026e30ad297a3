-- The names of declarations in a map are their context, one more at a time; and what a set of names gains.
use Rattle.std.proofs.Common.{◌≡◌, ℕ, ◌+◌, ◌<◌, Bool, true, false, cond, List, [], ◌∷◌, ◌++◌, length, take, get_or, Some, None, refl, sym, ap, ◌∙◌}
use Rattle.std.specs.Prelude.{bytes_eq, ◌||◌, ◌&&◌}
use Rattle.std.specs.Borrow.{Bor}
use Rattle.std.specs.BTreeMap.{BTreeMap, get, is_at}
use Rattle.std.specs.BTreeSet.{BTreeSet, contains}
use Rattle.std.proofs.Math.Path.{fun_ext}
use Rattle.std.proofs.Math.Bool.{or-false, or_assoc, and-false}
use Rattle.std.proofs.lemmas.List.{take_more}
use Rattle.std.proofs.lemmas.Map.Text.{is_eq-slice_cmp}
use Rattle.gr_base.proofs.EachAfter.{EachAfter-read}
use Rattle.gr_base.proofs.NameMaps.{key_cmp, name_added}
use Rattle.gr_word.specs.declared.variables.Label.{Label}
use Rattle.gr_word.specs.declared.variables.Label.TheVariants.{Secret}
use Rattle.gr_word.specs.declared.variables.Shape.{Shape}
use Rattle.src_tree.specs.declared.trees.Decl.{Decl}
use Rattle.src_tree.specs.Prelude.{Context, label_and_shape, context_of, secret_label, DeclaredOnce}
use Rattle.src_tree.proofs.Contexts.{declared_last, swapped}
use Rattle.gr_base.specs.Prelude.{found_under}
use Rattle.bank_alloc.specs.Prelude.{GainsNames, is_member}

-- one more declaration's name in the map
pub one_more : (decls : List Decl) (i : ℕ) (d : Decl) (m n : BTreeMap (Bor (List ℕ)) (Label × Shape)) (k : Bor (List ℕ))
    (kind : Label × Shape)
    → DeclaredOnce decls → i < length decls → d ≡ get_or decls i d → k.now ≡ d.name → kind ≡ label_and_shape d
    → found_under m ≡ context_of (take i decls)
    → ((q : Bor (List ℕ)) → get key_cmp n q ≡ cond (is_at (key_cmp k) q) (Some kind) (get key_cmp m q))
    → found_under n ≡ context_of (take (i + 1) decls)
one_more decls i d m n k kind once within read name is so_far h =
    fun_ext (λ q. name_added m n k kind h q
    ∙ ap (λ x. cond (bytes_eq x q) (Some kind) (found_under m q)) name
    ∙ ap (λ x. cond (bytes_eq d.name q) (Some x) (found_under m q)) is
    ∙ ap (λ (f : Context). cond (bytes_eq d.name q) (Some (label_and_shape d)) (f q)) so_far
    ∙ declared_last (take i decls) d
    (EachAfter-read (λ before x. context_of before x.name ≡ None) decls i d read within once) q
    ∙ ap (λ ds. context_of ds q) (sym (take_more decls i d within ∙ ap (λ x. take i decls ++ x ∷ []) (sym read))))

or_swapped : (a b c : Bool) → ((a || b) || c) ≡ (a || (c || b))
or_swapped true b c = refl
or_swapped false true true = refl
or_swapped false true false = refl
or_swapped false false true = refl
or_swapped false false false = refl

-- a set that is as before gained nothing
pub gains_nothing : (m : BTreeSet (Bor (List ℕ))) → GainsNames m m (λ name. false)
gains_nothing m = record { at = λ name. sym (or-false (is_member m name)) }

-- a set that gained some names and then others gained both, said in either order
pub gains_both : (m n o : BTreeSet (Bor (List ℕ))) (f g : List ℕ → Bool)
    → GainsNames m n f → GainsNames n o g → GainsNames m o (λ name. f name || g name)
gains_both m n o f g first second = record {
  at = λ name. second.at name ∙ ap (λ b. b || g name) (first.at name) ∙ or_assoc (is_member m name) (f name) (g name);
}

-- the same with the later names said first
pub gains_swapped : (m n o : BTreeSet (Bor (List ℕ))) (f g : List ℕ → Bool)
    → GainsNames m n f → GainsNames n o g → GainsNames m o (λ name. g name || f name)
gains_swapped m n o f g first second = record {
  at = λ name. second.at name ∙ ap (λ b. b || g name) (first.at name) ∙ or_swapped (is_member m name) (f name) (g name);
}

-- by a name that is public, and by one that is secret
pub gains_public : (m : BTreeSet (Bor (List ℕ))) (array : List ℕ)
    → GainsNames m m (λ name. bytes_eq name array && false)
gains_public m array = record {
  at = λ name.
      sym (or-false (is_member m name)) ∙ ap (λ b. is_member m name || b) (sym (and-false (bytes_eq name array)));
}

by_test : (b c : Bool) → cond b true c ≡ (c || (b && true))
by_test true true = refl
by_test true false = refl
by_test false true = refl
by_test false false = refl

-- a name that was added is gained, if the index is secret
pub gains_secret : (m n : BTreeSet (Bor (List ℕ))) (k : Bor (List ℕ)) (array : List ℕ) (index : Label)
    → index ≡ Secret → k.now ≡ array
    → ((q : Bor (List ℕ)) → contains key_cmp n q ≡ cond (is_at (key_cmp k) q) true (contains key_cmp m q))
    → GainsNames m n (λ name. bytes_eq name array && secret_label index)
gains_secret m n k array index secret is h = record {
  at = λ name. h (record k { now = name })
      ∙ ap (λ b. cond b true (is_member m name)) (is_eq-slice_cmp k.now name)
      ∙ ap (λ x. cond (bytes_eq x name) true (is_member m name)) is
      ∙ ap (λ b. cond b true (is_member m name)) (swapped array name)
      ∙ by_test (bytes_eq name array) (is_member m name)
      ∙ ap (λ label. is_member m name || (bytes_eq name array && secret_label label)) (sym secret);
}

-- what the walks of a program need
pub ruleset gains = (gains_nothing, gains_both, gains_swapped)
