-- How the evaluation of a program on inputs ended. For the contracts of private functions, and for proofs.
use Rattle.std.specs.Prelude.{◌≡◌, ℕ, ℤ, List, Some, None}
use Rattle.run_data.specs.OutputText.{output_of}
use Rattle.src_tree.specs.Meaning.{meaning}
use Rattle.src_tree.specs.Trees.{Source}
use Rattle.flow_types.specs.Wants.{declared_wants}
use Rattle.ghost_cli.specs.declared.evaluation.Left.{Left}
use Rattle.ghost_cli.specs.declared.evaluation.Left.TheVariants.{Done, Spent}

abbrev pub LeavesText : Source → List (List ℤ) → ℕ → Left → Type 0
LeavesText p inputs turns (Done text) =
    (left : List (List ℤ)) × (meaning p inputs turns ≡ Some left)
    × (text.items ≡ output_of (declared_wants p.decls) left)
LeavesText p inputs turns Spent = meaning p inputs turns ≡ None
