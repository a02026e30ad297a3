-- Ranges are known of public scalars only, so that secret code keeps every store within them.
use Rattle.std.proofs.Common.{◌≡◌, ℕ, Option, Some, None, List, refl, sym, ◌∙◌}
use Rattle.gr_word.specs.declared.variables.Label.{Label}
use Rattle.gr_word.specs.declared.variables.Label.TheVariants.{Public, Secret}
use Rattle.src_tree.specs.declared.trees.Decl.{Decl}
use Rattle.src_tree.specs.Prelude.{context_of, label_at, Left, variable_number, run_of, run_of_block, Statement, SetVariable, SetElement, Choice, Loop, Block, Nothing, Then, Flows, TypedStatement, TypedBlock}
use Rattle.scalar_ranges.specs.declared.ranges.Range.{Range}
use Rattle.scalar_ranges.specs.Prelude.{Ranges, range_at, AreWithin, AreOfPublic}
use Rattle.scalar_ranges.proofs.Forgetting.{Lacks, LacksAll, lacking-keeps, lacking-keeps_block, keeps-within}

-- nothing is known of a scalar to which a secret flows
none-of-secret : (decls : List Decl) (known : Ranges) (x : List ℕ) → AreOfPublic decls known
    → label_at (context_of decls) x ≡ Secret → range_at known (variable_number decls x) ≡ None
none-of-secret decls known x only secret = by (range_at known (variable_number decls x)) refl
  where
    apart : Public ≡ Secret → ⊥
    apart e = cc

    by : (r : Option Range) → range_at known (variable_number decls x) ≡ r → r ≡ None
    by None found = refl
    by (Some r) found = absurd (apart (sym (only.public x r found) ∙ secret))

secret-to : (l : Label) → Flows Secret l → l ≡ Secret
secret-to Public flows = absurd flows
secret-to Secret flows = refl

module _ (decls : List Decl) (known : Ranges) (only : AreOfPublic decls known) where
  mutual
    pub secret-lacks : (s : Statement) → TypedStatement (context_of decls) Secret s → Lacks decls known s
    secret-lacks (SetVariable x e) typed =
        none-of-secret decls known x only (secret-to (label_at (context_of decls) x) typed.1.1)
    secret-lacks (SetElement x i e) typed =
        none-of-secret decls known x only (secret-to (label_at (context_of decls) x) typed.1.1)
    secret-lacks (Choice t a b) typed = (secret-lacks_block a typed.1.0, secret-lacks_block b typed.1.1)
    secret-lacks (Loop t a) typed = secret-lacks_block a typed.1.1.1

    pub secret-lacks_block : (b : Block) → TypedBlock (context_of decls) Secret b → LacksAll decls known b
    secret-lacks_block Nothing typed = tt
    secret-lacks_block (Then s rest) typed = (secret-lacks s typed.0, secret-lacks_block rest typed.1)

  -- after a statement of secret code, and after a block of it
  pub secret-within : (s : Statement) (before after : Left) → TypedStatement (context_of decls) Secret s
      → AreWithin known before.store → run_of decls s before ≡ Some after → AreWithin known after.store
  secret-within s before after typed are run =
      keeps-within known before after (lacking-keeps decls known s (secret-lacks s typed) before after run) are

  pub secret-within_block : (b : Block) (before after : Left) → TypedBlock (context_of decls) Secret b
      → AreWithin known before.store → run_of_block decls b before ≡ Some after → AreWithin known after.store
  secret-within_block b before after typed are run =
      keeps-within known before after
      (lacking-keeps_block decls known b (secret-lacks_block b typed) before after run) are
