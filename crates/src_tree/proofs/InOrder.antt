-- The first error of a block, part by part, is the first among its statements in order.
use Rattle.std.proofs.Common.{◌≡◌, ℕ, ◌+◌, List, [], ◌∷◌, ◌++◌, length, refl, sym, ap, ◌∙◌, arith}
use Rattle.std.proofs.lemmas.List.{length-append}
use Rattle.gr_word.specs.declared.variables.Label.{Label}
use Rattle.src_tree.specs.Prelude.{Statement, SetVariable, SetElement, Choice, Loop, Block, Nothing, Then, Context, inside, with_parts, in_order, StatementFault, ◌or_else◌, first_among, count_of, block_count, statement_fault, block_fault}
use Rattle.src_tree.proofs.Chains.{or_assoc, or_none}

-- the first error among some statements and then others
among_both : (fault : StatementFault) (n m : ℕ) (xs ys : List (Label × Statement)) → m ≡ n + length xs
    → first_among fault n (xs ++ ys) ≡ first_among fault n xs or_else first_among fault m ys
among_both fault n m [] ys e = ap (λ k. first_among fault k ys) (let f : n ≡ m = omega arith in f)
among_both fault n m (x ∷ xs) ys e =
    ap (λ r. fault x.0 n x.1 or_else r) (among_both fault (n + 1) m xs ys (omega arith))
    ∙ sym (or_assoc (fault x.0 n x.1) (first_among fault (n + 1) xs) (first_among fault m ys))

mutual
  pub parts_counted : (known : Context) (code : Label) (s : Statement) → length (with_parts known code s) ≡ count_of s
  parts_counted known code (SetVariable x e) = refl
  parts_counted known code (SetElement x i e) = refl
  parts_counted known code (Choice t a b) =
      let arms = inside known code t in
      let h = length-append (in_order known arms a) (in_order known arms b) in
      let f = counted known arms a in
      let g = counted known arms b in
      omega arith
  parts_counted known code (Loop t a) = let f = counted known code a in omega arith

  pub counted : (known : Context) (code : Label) (b : Block) → length (in_order known code b) ≡ block_count b
  counted known code Nothing = refl
  counted known code (Then s rest) =
      let h = length-append (with_parts known code s) (in_order known code rest) in
      let f = parts_counted known code s in
      let g = counted known code rest in
      omega arith

mutual
  pub parts_first : (known : Context) (fault : StatementFault) (code : Label) (n : ℕ) (s : Statement)
      → statement_fault known fault code n s ≡ first_among fault n (with_parts known code s)
  parts_first known fault code n (SetVariable x e) = or_none (fault code n (SetVariable x e))
  parts_first known fault code n (SetElement x i e) = or_none (fault code n (SetElement x i e))
  parts_first known fault code n (Choice t a b) =
      let arms = inside known code t in
      let f = counted known arms a in
      ap (λ r. fault code n (Choice t a b) or_else r)
      (ap (λ r. r or_else block_fault known fault arms ((n + 1) + block_count a) b)
      (block_first known fault arms (n + 1) a)
      ∙ ap (λ r. first_among fault (n + 1) (in_order known arms a) or_else r)
      (block_first known fault arms ((n + 1) + block_count a) b)
      ∙ sym (among_both fault (n + 1) ((n + 1) + block_count a) (in_order known arms a) (in_order known arms b)
      (omega arith)))
  parts_first known fault code n (Loop t a) =
      ap (λ r. fault code n (Loop t a) or_else r) (block_first known fault code (n + 1) a)

  -- the first error of a block is the first among its statements in order
  pub block_first : (known : Context) (fault : StatementFault) (code : Label) (n : ℕ) (b : Block)
      → block_fault known fault code n b ≡ first_among fault n (in_order known code b)
  block_first known fault code n Nothing = refl
  block_first known fault code n (Then s rest) =
      let f = parts_counted known code s in
      ap (λ r. r or_else block_fault known fault code (n + count_of s) rest) (parts_first known fault code n s)
      ∙ ap (λ r. first_among fault n (with_parts known code s) or_else r)
      (block_first known fault code (n + count_of s) rest)
      ∙ sym (among_both fault n (n + count_of s) (with_parts known code s) (in_order known code rest) (omega arith))
