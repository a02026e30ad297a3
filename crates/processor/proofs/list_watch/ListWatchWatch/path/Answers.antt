use Rattle.std.proofs.Common.{◌∷◌, ℕ, [], ◌++◌, length, ap, ◌∙◌}
use Rattle.processor.specs.declared.list_watch.ShownPaths.{ShownPaths}
use Rattle.processor.specs.Prelude.{path_at}
use Rattle.processor.proofs.KeptPaths.{keeps-path}
use Rattle.processor.proofs.list_watch.ListWatchWatch.path.Goals as goal

pub returns-clause-heard : goal.returns-clause-heard
returns-clause-heard c =
    let told : ℕ → ShownPaths = λ n. path_at n c.args.stamp c.args.bank c.args.leaves.now in
    keeps-path c.args.self.now _ c.args.stamp c.args.bank c.args.leaves.now
    (ap (λ w. w.told.events) c.self.view_is)
    (c.push_within.ensures.items ∙ ap (λ n. c.self.inside.paths.items ++ told n ∷ []) c.len-place.ensures
    ∙ ap (λ w. w.paths ++ told (length w.told.events) ∷ []) c.self.view_is)
