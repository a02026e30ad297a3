-- A set of the names of symbols after one more name.
use Rattle.std.proofs.Common.{◌≡◌, ℕ, Bool, true, false, not, ◌&&◌, cond, List, [], ◌∷◌, ◌++◌, refl, sym, ap, ◌∙◌}
use Rattle.std.specs.Prelude.{bytes_eq}
use Rattle.std.specs.Borrow.{Bor}
use Rattle.std.specs.List.{list_all}
use Rattle.std.specs.BTreeMap.{is_at}
use Rattle.std.specs.BTreeSet.{BTreeSet, contains}
use Rattle.std.proofs.lemmas.List.Folds.{list_all-append}
use Rattle.std.proofs.lemmas.Map.Text.{is_eq-slice_cmp}
use Rattle.gr_base.proofs.NameMaps.{key_cmp}
use Rattle.gr_word.specs.Prelude.{is_name}
use Rattle.lt_isa.specs.declared.symbols.Symbol.{Symbol}
use Rattle.object_file.specs.Prelude.{is_new_name, has_name, GainsName, AreNamesOf}

-- a name that was added
pub gains_name : (m n : BTreeSet (Bor (List ℕ))) (k : Bor (List ℕ))
    → ((q : Bor (List ℕ)) → contains key_cmp n q ≡ cond (is_at (key_cmp k) q) true (contains key_cmp m q))
    → GainsName m n k.now
gains_name m n k h = record {
  at = λ other. h (record k { now = other }) ∙ ap (λ b. cond b true (has_name m other)) (is_eq-slice_cmp k.now other);
}

neither : (one all : Bool) → not (cond one true all) ≡ (not all && (not one && true))
neither true true = refl
neither true false = refl
neither false true = refl
neither false false = refl

-- the names of one more symbol
pub names_of_more : (m n : BTreeSet (Bor (List ℕ))) (symbols : List Symbol) (s : Symbol) (name : List ℕ)
    → AreNamesOf m symbols → GainsName m n name → s.name ≡ name → AreNamesOf n (symbols ++ s ∷ [])
names_of_more m n symbols s name known gains is = record {
  at = λ other. ap not (gains.at other)
      ∙ neither (bytes_eq name other) (has_name m other)
      ∙ ap (λ b. b && (not (bytes_eq name other) && true)) (known.at other)
      ∙ ap (λ x. list_all (λ t. not (bytes_eq t.name other)) symbols && (not (bytes_eq x other) && true)) (sym is)
      ∙ sym (list_all-append (λ t. not (bytes_eq t.name other)) symbols (s ∷ []));
}

and_true : (x y r : Bool) → x ≡ true → r ≡ y → r ≡ (x && y)
and_true true y r e same = same
and_true false y r e same = absurd cc

-- a name that isn't in the set of the symbols' names is new
pub new_where_unknown : (set : BTreeSet (Bor (List ℕ))) (symbols : List Symbol) (name : List ℕ) (r : Bool)
    → AreNamesOf set symbols → is_name name ≡ true → r ≡ not (has_name set name) → r ≡ is_new_name symbols name
unfolding is_new_name
new_where_unknown set symbols name r known named unknown =
    and_true (is_name name) _ r named (unknown ∙ known.at name)
