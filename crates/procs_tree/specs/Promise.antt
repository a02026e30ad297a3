-- What replacing the calls keeps: the program does with the file's own variables what the file means, for any starting
-- values of its new variables.
use Rattle.std.specs.Prelude.{◌≡◌, ℕ, ◌<◌, ◌≤◌, List, [], ◌∷◌, length, take, false}
use Rattle.std.specs.Option.{option_map}
use Rattle.src_tree.specs.declared.trees.Decl.{Decl}
use Rattle.src_tree.specs.Trees.{Source}
use Rattle.src_tree.specs.Meaning.{Store, words_of_number, meaning}
use Rattle.procs_tree.specs.Trees.{File}
use Rattle.procs_tree.specs.CallMeaning.{call_meaning}
use Rattle.procs_tree.specs.Inlined.{is_hidden, inlined_file}

-- no name begins with `__`
abbrev pub ArePlain : List Decl → Type 0
ArePlain [] = Unit {0}
ArePlain (d ∷ ds) = (is_hidden d.name ≡ false) × ArePlain ds

-- a store for the program: the words of the file's variables, and one word for each new one
pub record HasNewWords (f : File) (store : Store) : Type 0 where
  pub long : length store ≡ length (inlined_file f).decls
  pub scalars : (k : ℕ) → length f.decls ≤ k → k < length (inlined_file f).decls
      → length (words_of_number store k) ≡ 1

-- a program does with the variables of a file what the file means, for every store and any starting values of its other
-- variables
abbrev pub KeepsMeaning : File → Source → Type 0
KeepsMeaning f p = (store : Store) (turns : ℕ) → HasNewWords f store
    → option_map (take (length f.decls)) (meaning p store turns) ≡ call_meaning f (take (length f.decls) store) turns
