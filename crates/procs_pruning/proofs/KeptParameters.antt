-- The parameters that a call binds, one after another.
use Rattle.std.proofs.Common.{◌≡◌, ℕ, ◌+◌, ◌<◌, List, [], ◌∷◌, ◌++◌, length, drop, map, get_or, sym, ap, ◌∙◌}
use Rattle.std.proofs.lemmas.List.{drop_more}
use Rattle.procs_tree.specs.declared.trees.Param.{Param}
use Rattle.procs_tree.specs.Prelude.{Names, parameter_of}
use Rattle.procs_pruning.specs.Prelude.{Placed, keep_where, keeps, kept_from}
use Rattle.procs_pruning.proofs.NeededNames.{kept_one}

-- one parameter more
pub kept_more : (needed : Names) (params : List Param) (i : ℕ) (p : Param) (before after total : List Placed)
    → i < length params → p ≡ get_or params i p
    → before ++ kept_from needed i (map parameter_of (drop i params)) ≡ total
    → after ≡ before ++ keep_where (keeps needed (parameter_of p)) (i, parameter_of p) []
    → after ++ kept_from needed (i + 1) (map parameter_of (drop (i + 1) params)) ≡ total
kept_more needed params i p before after total lt at is more =
    ap (λ (ks : List Placed). ks ++ kept_from needed (i + 1) (map parameter_of (drop (i + 1) params))) more
    ∙ (kept_one needed i (parameter_of p) (map parameter_of (drop (i + 1) params)) before
    ∙ (ap (λ (ps : List Param). before ++ kept_from needed i (map parameter_of ps))
    (ap (λ (q : Param). q ∷ drop (i + 1) params) at ∙ sym (drop_more params i p lt))
    ∙ is))
