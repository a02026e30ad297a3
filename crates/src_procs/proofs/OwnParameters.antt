-- The parameters of a file's own call, one after another.
use Rattle.std.proofs.Common.{◌≡◌, ℕ, ◌+◌, ◌<◌, List, [], ◌∷◌, ◌++◌, length, drop, map, reverse, get_or, sym, ap, ◌∙◌}
use Rattle.std.proofs.lemmas.List.{drop_more}
use Rattle.src_tree.specs.Prelude.{Tree, expr_tree}
use Rattle.src_tree.specs.declared.trees.Expr.{Expr}
use Rattle.procs_tree.specs.declared.trees.Param.{Param}
use Rattle.procs_tree.specs.Prelude.{kept_name, parameter_of, trees_of}
use Rattle.src_procs.specs.Prelude.{Binding, with_parameter, with_parameters}
use Rattle.src_procs.proofs.OwnCalls.{one_given}

-- one parameter more
pub one_bound : (params : List Param) (i : ℕ) (p : Param) (whole left : List Expr) (e : Expr)
    (before after total : Binding) → i < length params → p ≡ get_or params i p → whole ≡ left ++ e ∷ []
    → with_parameters kept_name before (map parameter_of (drop i params)) (trees_of (reverse whole)) ≡ total
    → after ≡ with_parameter kept_name before (parameter_of p) (expr_tree e)
    → with_parameters kept_name after (map parameter_of (drop (i + 1) params)) (trees_of (reverse left)) ≡ total
one_bound params i p whole left e before after total lt at is known more =
    ap (λ (b : Binding). with_parameters kept_name b (map parameter_of (drop (i + 1) params)) (trees_of (reverse left)))
    more
    ∙ (ap (λ (es : List Tree). with_parameters kept_name before (map parameter_of (p ∷ drop (i + 1) params)) es)
    (sym (one_given whole left e is))
    ∙ (ap (λ (ps : List Param). with_parameters kept_name before (map parameter_of ps) (trees_of (reverse whole)))
    (ap (λ (q : Param). q ∷ drop (i + 1) params) at ∙ sym (drop_more params i p lt))
    ∙ known))
