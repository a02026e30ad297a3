-- What a statement of secret code makes of a store. Secret code has no loops, so that this is a function of stores.
-- (This project's profile of the source language of GhostRider, ASPLOS 2015.)
use Rattle.std.specs.Prelude.{if◌then◌else◌, List}
use Rattle.src_tree.specs.declared.trees.Decl.{Decl}
use Rattle.src_tree.specs.Meaning.{Store, guard_holds}
use Rattle.src_tree.specs.Trees.{Statement, SetVariable, SetElement, Choice, Loop, Block, Nothing, Then}
use Rattle.block_cache_gen.specs.Assignments.{assigned}

-- the store that a statement leaves, and a block; a loop, which secret code hasn't, would leave it as it is
abbrev mutual
  pub effect_of : List Decl → Statement → Store → Store
  effect_of decls (SetVariable x e) store = assigned decls (SetVariable x e) store
  effect_of decls (SetElement x i e) store = assigned decls (SetElement x i e) store
  effect_of decls (Choice t a b) store =
      if guard_holds decls store t then effect_of_block decls a store else effect_of_block decls b store
  effect_of decls (Loop t a) store = store

  pub effect_of_block : List Decl → Block → Store → Store
  effect_of_block decls Nothing store = store
  effect_of_block decls (Then s rest) store = effect_of_block decls rest (effect_of decls s store)
