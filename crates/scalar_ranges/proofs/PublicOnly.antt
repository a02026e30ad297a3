-- What is known at each statement is known of public scalars only.
use Rattle.std.proofs.Common.{◌≡◌, ◌≢◌, ℕ, ◌<◌, ◌≤◌, Bool, true, false, cond, Option, Some, None, List, length, set, refl, sym, ap, ◌∙◌, ⊎_elim, arith}
use Rattle.std.proofs.lemmas.Bool.{cases_eq, cases_lt}
use Rattle.std.proofs.lemmas.List.{get_or-set_same, get_or-set_other, get_or_past, length-set}
use Rattle.gr_word.specs.declared.variables.Label.{Label}
use Rattle.gr_word.specs.declared.variables.Label.TheVariants.{Public, Secret}
use Rattle.gr_word.specs.declared.variables.Shape.{Shape}
use Rattle.src_tree.specs.declared.trees.Decl.{Decl}
use Rattle.src_tree.specs.Prelude.{context_of, label_at, label_or_public, variable_number, Tree, Number, Variable, Element, Operation, Test, Statement, SetVariable, SetElement, Choice, Loop, Block}
use Rattle.src_tree.proofs.VariableNumbers.{same-number}
use Rattle.scalar_ranges.specs.declared.ranges.Range.{Range}
use Rattle.scalar_ranges.specs.Prelude.{Ranges, range_at, AreOfPublic, nothing_known, range_of, learned_as, learned, with_range, forgotten_block, after_statement, after_block, counted, keeps_least, inside_by, inside_of, inside}
use Rattle.scalar_ranges.proofs.Results.{no-range}
use Rattle.scalar_ranges.proofs.Forgetting.{IsLess, forgotten-less, forgotten-less_block}
use Rattle.scalar_ranges.proofs.Coming.{none-at}

module _ (decls : List Decl) where
  -- two names of one variable have one label
  one-label : (x y : List ℕ) → variable_number decls x ≡ variable_number decls y
      → label_at (context_of decls) x ≡ label_at (context_of decls) y
  one-label x y same = by (context_of decls x) (context_of decls y) refl refl
    where
      by : (first second : Option (Label × Shape)) → context_of decls x ≡ first → context_of decls y ≡ second
          → label_or_public first ≡ label_or_public second
      by None None e f = refl
      by (Some kind) second e f =
          ap label_or_public (sym (same-number decls x y kind e same) ∙ f)
      by None (Some kind) e f = ap label_or_public (sym e ∙ same-number decls y x kind f (sym same))

  pub nothing-public : (count : ℕ) → AreOfPublic decls (nothing_known count)
  nothing-public count = record {
    public = λ x r found. no-range r (sym (none-at count (variable_number decls x)) ∙ found);
  }

  less-public : (less more : Ranges) → IsLess less more → AreOfPublic decls more → AreOfPublic decls less
  less-public less more is only = record {
    public = λ x r found.
        ⊎_elim (λ none. no-range r (sym none ∙ found)) (λ same. only.public x r (sym same ∙ found))
        (is.each (variable_number decls x));
  }

  -- what is known of one name more
  with-public : (known : Ranges) (x : List ℕ) (r : Option Range) → AreOfPublic decls known
      → ((s : Range) → r ≡ Some s → label_at (context_of decls) x ≡ Public)
      → AreOfPublic decls (with_range decls known x r)
  with-public known x r only own = record {
    public = λ y s found.
        ⊎_elim (at-own y s found) (at-other y s found) (cases_eq (variable_number decls y) (variable_number decls x));
  }
    where
      k : ℕ
      k = variable_number decls x

      at-other : (y : List ℕ) (s : Range) → range_at (set known k r) (variable_number decls y) ≡ Some s
          → variable_number decls y ≢ k → label_at (context_of decls) y ≡ Public
      at-other y s found ne =
          only.public y s (sym (get_or-set_other known k (variable_number decls y) r None ne) ∙ found)

      at-own : (y : List ℕ) (s : Range) → range_at (set known k r) (variable_number decls y) ≡ Some s
          → variable_number decls y ≡ k → label_at (context_of decls) y ≡ Public
      at-own y s found same = one-label y x same ∙ ⊎_elim within past (cases_lt k (length known))
        where
          found-own : range_at (set known k r) k ≡ Some s
          found-own = ap (range_at (set known k r)) (sym same) ∙ found

          within : k < length known → label_at (context_of decls) x ≡ Public
          within below = own s (sym (get_or-set_same known k r None below) ∙ found-own)

          past : length known ≤ k → label_at (context_of decls) x ≡ Public
          past above =
              no-range s
              (sym (get_or_past (set known k r) k None
              (let long = length-set known k r in let l : length (set known k r) ≤ k = omega (arith, above, long) in l))
              ∙ found-own)

  learned-public : (l : Label) (r : Option Range) (s : Range) → learned_as l r ≡ Some s → l ≡ Public
  learned-public Public r s e = refl
  learned-public Secret r s e = no-range s e

  pub after-public : (known : Ranges) (s : Statement) → AreOfPublic decls known
      → AreOfPublic decls (after_statement decls known s)
  after-public known (SetVariable x e) only =
      with-public known x (learned decls known x e) only
      (λ s found. learned-public (label_at (context_of decls) x) (range_of decls known e) s found)
  after-public known (SetElement x i e) only =
      less-public _ known (forgotten-less decls known (SetElement x i e)) only
  after-public known (Choice t a b) only = less-public _ known (forgotten-less decls known (Choice t a b)) only
  after-public known (Loop t a) only = less-public _ known (forgotten-less decls known (Loop t a)) only

  -- if variables are forgotten, as at a loop's guard
  pub forgotten-public : (known : Ranges) (b : Block) → AreOfPublic decls known
      → AreOfPublic decls (forgotten_block decls known b)
  forgotten-public known b only = less-public _ known (forgotten-less_block decls known b) only

  -- in the body of a loop
  module _ (known : Ranges) (t : Test) (a : Block) (only : AreOfPublic decls known) where
    forgotten : AreOfPublic decls (forgotten_block decls known a)
    forgotten = forgotten-public known a only

    by-guess : (x : List ℕ) (start guess : Option Range) → range_at known (variable_number decls x) ≡ start
        → AreOfPublic decls (inside_by decls (forgotten_block decls known a) x start guess a)
    by-guess x start None begins = forgotten
    by-guess x None (Some guess) begins = forgotten
    by-guess x (Some start) (Some guess) begins =
        by-keeps (keeps_least (Some start)
        (range_at (after_block decls (with_range decls (forgotten_block decls known a) x (Some guess)) a)
        (variable_number decls x)))
      where
        by-keeps : (b : Bool)
            → AreOfPublic decls (cond b (with_range decls (forgotten_block decls known a) x (Some guess))
            (forgotten_block decls known a))
        by-keeps true =
            with-public (forgotten_block decls known a) x (Some guess) forgotten
            (λ s found. only.public x start begins)
        by-keeps false = forgotten

    by-left : (e : Tree) → AreOfPublic decls (inside_of decls known t a e)
    by-left (Variable x) =
        by-guess x (range_at known (variable_number decls x))
        (counted t.cmp (range_at known (variable_number decls x))
        (range_of decls (forgotten_block decls known a) t.right))
        refl
    by-left other = forgotten

    pub inside-public : AreOfPublic decls (inside decls known t a)
    inside-public = by-left t.left
