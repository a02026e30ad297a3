-- The value of an expression is in the range that is known of it.
use Rattle.std.proofs.Common.{◌≡◌, ℕ, ◌<◌, Bool, true, false, Option, Some, None, List, refl, subst, sym, arith}
use Rattle.std.proofs.lemmas.Bool.{ltb-true}
use Rattle.gr_word.specs.Prelude.{unsigned_of}
use Rattle.src_tree.specs.declared.trees.Decl.{Decl}
use Rattle.src_tree.specs.Prelude.{Store, evaluated, variable_number, Tree, Number, Variable, Element, Operation}
use Rattle.scalar_ranges.specs.declared.ranges.Range.{Range}
use Rattle.scalar_ranges.specs.Prelude.{Ranges, IsIn, AreWithin, range_of, is_below, is_within}
use Rattle.scalar_ranges.proofs.Results.{no-range, natural-in, operated-in}

module _ (decls : List Decl) (known : Ranges) (store : Store) (are : AreWithin known store) where
  pub range-in : (e : Tree) (r : Range) → range_of decls known e ≡ Some r → IsIn r (evaluated decls store e)
  range-in (Number z) r e = natural-in z r e
  range-in (Variable x) r e = are.within (variable_number decls x) r e
  range-in (Element x i) r e = no-range r e
  range-in (Operation op a b) r e =
      operated-in op (range_of decls known a) (range_of decls known b) r (evaluated decls store a)
      (evaluated decls store b) (range-in a) (range-in b) e

  -- an index that is known to be below a length is below it, so that it is its own remainder
  pub within-below : (i : Tree) (length : ℕ) → is_within decls known i length ≡ true
      → unsigned_of (evaluated decls store i) < length
  within-below i length below = by (range_of decls known i) refl below
    where
      by : (found : Option Range) → range_of decls known i ≡ found → is_below found length ≡ true
          → unsigned_of (evaluated decls store i) < length
      by None found e = absurd (let f : ◌≡◌ {A = Bool} false true = e in cc)
      by (Some r) found e =
          let is = range-in i r found in
          let most = is.most in
          let less = ltb-true r.most length e in
          subst (λ z. unsigned_of z < length) (sym is.is) (let l : is.number < length = omega (arith, most, less) in l)
