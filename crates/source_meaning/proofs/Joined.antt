-- Actions in sequence.
use Rattle.std.proofs.Common.{◌≡◌, ℕ, ◌+◌, ◌<◌, ◌≤◌, List, [], ◌∷◌, ◌++◌, length, get_or, drop, refl, sym, ap, ◌∙◌, add-one, drop-cons}
use Rattle.std.proofs.Math.ListN.{drop_of_length-le}
use Rattle.src_tree.specs.declared.trees.Decl.{Decl}
use Rattle.src_tree.specs.declared.trees.Stmt.{Stmt}
use Rattle.src_tree.specs.Prelude.{statement_of, block_of_all}
use Rattle.source_meaning.specs.declared.placed.Step.{Step}
use Rattle.source_meaning.specs.Prelude.{Actions, NoAction, Before, placed_statement, placed_block, action_of, actions_of_all, actions_joined}

-- no actions after others
pub joined_none : (actions : Actions) → actions_joined actions NoAction ≡ actions
joined_none NoAction = refl
joined_none (Before first rest) = ap (Before first) (joined_none rest)

-- actions after a list that has grown by one
pub joined_push : (steps : List Step) (step : Step) (rest : Actions)
    → actions_joined (actions_of_all (steps ++ step ∷ [])) rest
    ≡ actions_joined (actions_of_all steps) (Before (action_of step) rest)
joined_push [] step rest = refl
joined_push (first ∷ steps) step rest = ap (Before (action_of first)) (joined_push steps step rest)

-- the statements that were placed so far, and one more
pub placed_more : (decls : List Decl) (steps more : List Step) (step : Step) (statements : List Stmt) (i : ℕ) (s : Stmt)
    (whole : Actions) → i < length statements → more ≡ steps ++ step ∷ [] → s ≡ get_or statements i s
    → action_of step ≡ placed_statement decls (statement_of s)
    → actions_joined (actions_of_all steps) (placed_block decls (block_of_all (drop i statements))) ≡ whole
    → actions_joined (actions_of_all more) (placed_block decls (block_of_all (drop (i + 1) statements))) ≡ whole
placed_more decls steps more step statements i s whole below grown read placed so_far =
    ap (λ ss. actions_joined (actions_of_all ss) (placed_block decls (block_of_all (drop (i + 1) statements)))) grown
    ∙ joined_push steps step _
    ∙ ap (λ a. actions_joined (actions_of_all steps)
    (Before a (placed_block decls (block_of_all (drop (i + 1) statements)))))
    (placed ∙ ap (λ x. placed_statement decls (statement_of x)) read)
    ∙ ap (λ ss. actions_joined (actions_of_all steps) (placed_block decls (block_of_all ss)))
    (sym (drop-cons statements i s below ∙ ap (λ n. get_or statements i s ∷ drop n statements) (sym (add-one i))))
    ∙ so_far

-- all of them were placed
pub placed_all : (decls : List Decl) (steps : List Step) (statements : List Stmt) (i : ℕ) (whole : Actions)
    → length statements ≤ i
    → actions_joined (actions_of_all steps) (placed_block decls (block_of_all (drop i statements))) ≡ whole
    → actions_of_all steps ≡ whole
placed_all decls steps statements i whole past so_far =
    sym (joined_none (actions_of_all steps))
    ∙ ap (λ ss. actions_joined (actions_of_all steps) (placed_block decls (block_of_all ss)))
    (sym (drop_of_length-le statements past))
    ∙ so_far
