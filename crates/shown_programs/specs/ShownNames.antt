-- The names of a program's variables for people, in the order of declaration. (This project's profile.)
use Rattle.std.specs.Prelude.{◌≡◌, ◌≢◌, ℕ, ◌<◌, false, List, [], length, slice_index_or, All, AllPairs}
use Rattle.src_tree.specs.declared.trees.Decl.{Decl}
use Rattle.procs_tree.specs.Inlined.{is_hidden}

-- Each variable has a name. It is the declared one, unless a call adds the variable. No two variables have the same name.
pub record AreShown (decls : List Decl) (names : List (List ℕ)) : Type 0 where
  pub count : length names ≡ length decls
  pub own : (k : ℕ) (d : Decl) → k < length decls → is_hidden (slice_index_or decls k d).name ≡ false
      → slice_index_or names k [] ≡ (slice_index_or decls k d).name
  pub distinct : AllPairs (λ first second. first ≢ second) names

-- no variable is declared by the name, and it isn't one of some names
abbrev pub IsNew : List Decl → List (List ℕ) → List ℕ → Type 0
IsNew decls names name = All (λ (decl : Decl). decl.name ≢ name) decls × All (λ other. other ≢ name) names
