-- Statements in sequence.
use Rattle.std.proofs.Common.{◌≡◌, ℕ, ◌+◌, ◌<◌, ◌≤◌, List, [], ◌∷◌, ◌++◌, length, get_or, drop, refl, sym, ap, ◌∙◌, subst, add-one, drop-cons}
use Rattle.std.proofs.Math.ListN.{drop_of_length-le}
use Rattle.src_tree.specs.declared.trees.Stmt.{Stmt}
use Rattle.src_tree.specs.Prelude.{Block, Nothing, Then, statement_of, block_of_all}
use Rattle.source_folding.specs.Prelude.{folded_statement, folded_block, StatementNumbersFit, BlockNumbersFit}

-- a block, and then another
abbrev pub joined : Block → Block → Block
joined Nothing others = others
joined (Then s rest) others = Then s (joined rest others)

-- no statements after others
pub joined_none : (b : Block) → joined b Nothing ≡ b
joined_none Nothing = refl
joined_none (Then s rest) = ap (Then s) (joined_none rest)

-- statements after a list that has grown by one
pub joined_push : (made : List Stmt) (s : Stmt) (rest : Block)
    → joined (block_of_all (made ++ s ∷ [])) rest ≡ joined (block_of_all made) (Then (statement_of s) rest)
joined_push [] s rest = refl
joined_push (first ∷ made) s rest = ap (Then (statement_of first)) (joined_push made s rest)

-- the statements that were folded so far, and one more
pub folded_more : (made more : List Stmt) (new : Stmt) (statements : List Stmt) (i : ℕ) (s : Stmt) (whole : Block)
    → i < length statements → more ≡ made ++ new ∷ [] → s ≡ get_or statements i s
    → statement_of new ≡ folded_statement (statement_of s)
    → joined (block_of_all made) (folded_block (block_of_all (drop i statements))) ≡ whole
    → joined (block_of_all more) (folded_block (block_of_all (drop (i + 1) statements))) ≡ whole
folded_more made more new statements i s whole below grown read folds so_far =
    ap (λ ss. joined (block_of_all ss) (folded_block (block_of_all (drop (i + 1) statements)))) grown
    ∙ joined_push made new _
    ∙ ap (λ a. joined (block_of_all made) (Then a (folded_block (block_of_all (drop (i + 1) statements)))))
    (folds ∙ ap (λ x. folded_statement (statement_of x)) read)
    ∙ ap (λ ss. joined (block_of_all made) (folded_block (block_of_all ss)))
    (sym (drop-cons statements i s below ∙ ap (λ n. get_or statements i s ∷ drop n statements) (sym (add-one i))))
    ∙ so_far

-- all of them were folded
pub folded_all : (made statements : List Stmt) (i : ℕ) (whole : Block) → length statements ≤ i
    → joined (block_of_all made) (folded_block (block_of_all (drop i statements))) ≡ whole
    → block_of_all made ≡ whole
folded_all made statements i whole past so_far =
    sym (joined_none (block_of_all made))
    ∙ ap (λ ss. joined (block_of_all made) (folded_block (block_of_all ss))) (sym (drop_of_length-le statements past))
    ∙ so_far

-- the numbers of statements so far are words if those of the rest are, and one more statement
pub numbers_more : (whole : Type 0) (statements : List Stmt) (i : ℕ) (s : Stmt) → i < length statements
    → s ≡ get_or statements i s → StatementNumbersFit (statement_of s)
    → (BlockNumbersFit (block_of_all (drop i statements)) → whole)
    → BlockNumbersFit (block_of_all (drop (i + 1) statements)) → whole
numbers_more whole statements i s below read fits so_far rest =
    so_far
    (subst (λ (ss : List Stmt). BlockNumbersFit (block_of_all ss))
    (sym (drop-cons statements i s below ∙ ap (λ n. get_or statements i s ∷ drop n statements) (sym (add-one i))))
    (subst (λ (x : Stmt). StatementNumbersFit (statement_of x)) read fits, rest))

-- those of all
pub numbers_all : (whole : Type 0) (statements : List Stmt) (i : ℕ) → length statements ≤ i
    → (BlockNumbersFit (block_of_all (drop i statements)) → whole) → whole
numbers_all whole statements i past so_far =
    so_far (subst (λ (ss : List Stmt). BlockNumbersFit (block_of_all ss)) (sym (drop_of_length-le statements past)) tt)
