-- At each statement there are as many ranges as before the program.
use Rattle.std.proofs.Common.{◌≡◌, ℕ, Bool, true, false, cond, Option, Some, None, List, length, ◌∙◌}
use Rattle.std.proofs.lemmas.List.{length-set}
use Rattle.src_tree.specs.declared.trees.Decl.{Decl}
use Rattle.src_tree.specs.Prelude.{variable_number, Tree, Number, Variable, Element, Operation, Test, Statement, SetVariable, SetElement, Choice, Loop, Block}
use Rattle.scalar_ranges.specs.declared.ranges.Range.{Range}
use Rattle.scalar_ranges.specs.Prelude.{Ranges, range_at, range_of, learned, with_range, forgotten_block, after_statement, after_block, counted, keeps_least, inside_by, inside_of, inside}
use Rattle.scalar_ranges.proofs.Forgetting.{forgotten-less, forgotten-less_block}

module _ (decls : List Decl) where
  pub forgotten-count : (known : Ranges) (b : Block) → length (forgotten_block decls known b) ≡ length known
  forgotten-count known b = let less = forgotten-less_block decls known b in less.count

  pub after-count : (known : Ranges) (s : Statement) → length (after_statement decls known s) ≡ length known
  after-count known (SetVariable x e) = length-set known (variable_number decls x) (learned decls known x e)
  after-count known (SetElement x i e) = length-set known (variable_number decls x) None
  after-count known (Choice t a b) = let less = forgotten-less decls known (Choice t a b) in less.count
  after-count known (Loop t a) = forgotten-count known a

  -- in the body of a loop
  module _ (known : Ranges) (t : Test) (a : Block) where
    by-guess : (x : List ℕ) (start guess : Option Range)
        → length (inside_by decls (forgotten_block decls known a) x start guess a) ≡ length known
    by-guess x start None = forgotten-count known a
    by-guess x start (Some guess) =
        by-keeps (keeps_least start
        (range_at (after_block decls (with_range decls (forgotten_block decls known a) x (Some guess)) a)
        (variable_number decls x)))
      where
        by-keeps : (b : Bool)
            → length (cond b (with_range decls (forgotten_block decls known a) x (Some guess))
            (forgotten_block decls known a)) ≡ length known
        by-keeps true =
            length-set (forgotten_block decls known a) (variable_number decls x) (Some guess)
            ∙ forgotten-count known a
        by-keeps false = forgotten-count known a

    by-left : (e : Tree) → length (inside_of decls known t a e) ≡ length known
    by-left (Variable x) =
        by-guess x (range_at known (variable_number decls x))
        (counted t.cmp (range_at known (variable_number decls x))
        (range_of decls (forgotten_block decls known a) t.right))
    by-left other = forgotten-count known a

    pub inside-count : length (inside decls known t a) ≡ length known
    inside-count = by-left t.left
