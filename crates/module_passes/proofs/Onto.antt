-- Statements before others that are done, one after another from the last.
use Rattle.std.proofs.Common.{◌≡◌, ℕ, ◌+◌, ◌<◌, ◌≤◌, ◌||◌, List, [], ◌∷◌, ◌++◌, length, get_or, drop, refl, sym, ap, ◌∙◌, add-one, drop-cons, arith}
use Rattle.std.specs.Prelude.{reverse}
use Rattle.std.proofs.lemmas.List.{reverse-append, length-reverse}
use Rattle.module_tree.specs.Trees.{Statement, Choice, Nested, Block, Nothing, Then}
use Rattle.module_calls.specs.Tails.{always, always_in, followed, tails}
use Rattle.module_passes.specs.declared.trees.Stmt.{Stmt, Stmt-F, fold-roll-Stmt}
use Rattle.module_passes.specs.declared.trees.Stmt.TheViews.{size-Stmt}
use Rattle.module_passes.specs.Owned.{expression_of, statement_step, statement_of, block_of_all}
use Rattle.module_passes.specs.BeforeRest.{before_rest, all_before}
use denote.Param.Weighed.{most, most-append}
use Rattle.module_passes.specs.declared.trees.Stmt.TheVariants as stmt

tails_step : (s : Statement) (rest : Block) → tails (Then s rest) ≡ before_rest s (tails rest)
tails_step (Choice t a b) rest = refl
tails_step s rest = refl

pub all_moved : (statements : List Stmt) → all_before statements Nothing ≡ tails (block_of_all statements)
all_moved [] = refl
all_moved (s ∷ statements) =
    ap (before_rest (statement_of s)) (all_moved statements) ∙ sym (tails_step (statement_of s) (block_of_all statements))

pub last_before : (statements : List Stmt) (s : Stmt) (rest : Block)
    → all_before (statements ++ s ∷ []) rest ≡ all_before statements (before_rest (statement_of s) rest)
last_before [] s rest = refl
last_before (first ∷ statements) s rest = ap (before_rest (statement_of first)) (last_before statements s rest)

-- a statement that is added at the end comes first in the reversed list
pub reversed_last : (statements : List Stmt) (s : Stmt)
    → block_of_all (reverse (statements ++ s ∷ [])) ≡ Then (statement_of s) (block_of_all (reverse statements))
reversed_last statements s = ap block_of_all (reverse-append statements (s ∷ []))

-- a block before statements that are given from the last to the first
followed_some : (b : Block) (rest : List Stmt) → (length rest ≡ 0 → ⊥)
    → followed b (block_of_all rest) ≡ Then (Nested b) (block_of_all rest)
followed_some b [] some = absurd (some refl)
followed_some b (s ∷ rest) some = refl

pub followed_reversed : (block : Block) (rest made : List Stmt) (s : Stmt) → made ≡ reverse (rest ++ s ∷ [])
    → statement_of s ≡ Nested block → (length rest ≡ 0 → ⊥)
    → block_of_all made ≡ followed block (block_of_all (reverse rest))
followed_reversed block rest made s is nested some =
    let long = length-reverse rest in
    ap block_of_all is
    ∙ reversed_last rest s
    ∙ ap (λ t. Then t (block_of_all (reverse rest))) nested
    ∙ sym (followed_some block (reverse rest) (λ e. some (sym long ∙ e)))

-- statements from an index on
pub always_from : (statements : List Stmt) (i : ℕ) (s : Stmt) → i < length statements → s ≡ get_or statements i s
    → always_in (block_of_all (drop i statements))
    ≡ (always (statement_of s) || always_in (block_of_all (drop (i + 1) statements)))
always_from statements i s below read =
    ap (λ ss. always_in (block_of_all ss))
    (drop-cons statements i s below ∙ ap (λ n. get_or statements i s ∷ drop n statements) (sym (add-one i)))
    ∙ ap (λ x. always (statement_of x) || always_in (block_of_all (drop (i + 1) statements))) (sym read)

-- the loop of `tails`: one more statement is taken from the end
pub one_more : (left fewer : List Stmt) (s : Stmt) (rest more whole : Block) → left ≡ fewer ++ s ∷ []
    → more ≡ before_rest (statement_of s) rest → all_before left rest ≡ whole → all_before fewer more ≡ whole
one_more left fewer s rest more whole popped made so_far =
    ap (all_before fewer) made ∙ sym (last_before fewer s rest) ∙ ap (λ ss. all_before ss rest) (sym popped) ∙ so_far

-- the trees of two variants
pub block_tree : (body : _) → statement_of (stmt.Block body) ≡ Nested (block_of_all body.items)
block_tree body = ap statement_of (sym (stmt.rolls-Block body)) ∙ fold-roll-Stmt Statement statement_step (Stmt-F.Block body)

-- statements without their last aren't deeper
pub no_deeper : (left fewer whole : List Stmt) (s : Stmt) → left ≡ fewer ++ s ∷ [] → most size-Stmt left ≤ most size-Stmt whole
    → most size-Stmt fewer ≤ most size-Stmt whole
no_deeper left fewer whole s popped le =
    let long = ap (most size-Stmt) popped ∙ most-append size-Stmt fewer (s ∷ []) in omega (arith, long, le)

pub choice_tree : (test : _) (first second : _) → statement_of (stmt.If test first second)
    ≡ Choice (expression_of test) (block_of_all first.items) (block_of_all second.items)
choice_tree test first second =
    ap statement_of (sym (stmt.rolls-If test first second))
    ∙ fold-roll-Stmt Statement statement_step (Stmt-F.If test first second)
