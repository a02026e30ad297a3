-- The store that an assignment leaves is what it means, and it uses no turns.
use Rattle.std.proofs.Common.{List, refl}
use Rattle.src_tree.specs.declared.trees.Decl.{Decl}
use Rattle.src_tree.specs.Prelude.{Statement, SetVariable, SetElement, Choice, Loop}
use Rattle.block_cache_gen.specs.Prelude.{IsAssignment, IsEffect, assigned}

pub assignment_means : (decls : List Decl) (s : Statement) → IsAssignment s → IsEffect decls s (assigned decls s)
assignment_means decls (SetVariable x e) is = λ store turns. refl
assignment_means decls (SetElement x i e) is = λ store turns. refl
assignment_means decls (Choice t a b) is = absurd is
assignment_means decls (Loop t a) is = absurd is
