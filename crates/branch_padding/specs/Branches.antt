-- What the call that makes the code of a branch on a secret asks of it, and what it says of that code. (GhostRider,
-- ASPLOS 2015: the arms of a branch on a secret are padded so that both show the same events.)
use Rattle.std.specs.Prelude.{◌≡◌, ℕ, List}
use Rattle.gr_word.specs.declared.variables.Label.{Label}
use Rattle.lt_isa.specs.declared.instructions.Instr.{Instr}
use Rattle.lt_isa.specs.declared.symbols.Note.{Note}
use Rattle.src_tree.specs.Contexts.{Context, context_of}
use Rattle.src_tree.specs.Labels.{inside}
use Rattle.src_tree.specs.Trees.{Statement, SetVariable, SetElement, Choice, Loop, Source}
use Rattle.block_cache_gen.specs.declared.frames.Mode.{Mode}
use Rattle.block_cache_gen.specs.declared.frames.Mode.TheVariants.{Public, Real, Mirrored}
use Rattle.src_tree.specs.Statements.{StandsIn}
use Rattle.block_cache_gen.specs.Homes.{Setting}
use Rattle.block_cache_gen.specs.PublicCode.{AtItsPlace}
use Rattle.branch_padding.specs.SecretChoices.{PassedCode}
use Rattle.gr_word.specs.declared.variables.Label.TheVariants as label

-- the label of the code for which a mode is
abbrev pub code_for : Mode → Label
code_for Public = label.Public
code_for Real = label.Secret
code_for Mirrored = label.Secret

-- A choice whose parts are secret code: in public code that is one by a secret guard, and in secret code each.
abbrev pub IsSecretChoice : Context → Label → Statement → Type 0
IsSecretChoice known code (Choice t a b) = inside known code t ≡ label.Secret
IsSecretChoice known code other = ⊥

-- a choice of a program, in the code for which a mode is
pub record IsBranchFor (p : Source) (mode : Mode) (s : Statement) : Type 0 where
  pub stands : StandsIn p (code_for mode) s
  pub secret : IsSecretChoice (context_of p.decls) (code_for mode) s

-- the code is passed at its place in public code, and what the setting relies on is kept
abbrev pub IsPassedAsBranch : Setting → (place : ℕ) → List Instr → List Note → Type 0
IsPassedAsBranch f place code notes = AtItsPlace f place code notes (λ o comes. PassedCode o f place code comes)
