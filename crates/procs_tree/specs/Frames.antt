-- What the names in a procedure's statements are, where it is called: its scalar parameters and its locals are new, in
-- this order, and each array parameter is what its argument names in the caller's statements.
use Rattle.std.specs.Prelude.{ℕ, ◌+◌, pos, List, [], ◌∷◌, if◌then◌else◌, bytes_eq}
use Rattle.gr_word.specs.declared.variables.Label.{Label}
use Rattle.src_tree.specs.declared.trees.Decl.{Decl}
use Rattle.src_tree.specs.Trees.{Tree, Number, Variable}
use Rattle.procs_tree.specs.Trees.{Parameter, OfValue, OfVariable}

-- a name is something, and all others are what they were
abbrev pub naming : {X : Type 0} → List ℕ → X → (List ℕ → X) → List ℕ → X
naming name x others y = if bytes_eq y name then x else others y

-- what an argument names: a bare name names what it is for the caller
abbrev pub named_by : {X : Type 0} → X → (List ℕ → X) → Tree → X
named_by nothing caller (Variable name) = caller name
named_by nothing caller _ = nothing

abbrev pub naming_locals : {X : Type 0} → (ℕ → X) → X → ℕ → List Decl → List ℕ → X
naming_locals new nothing next [] y = nothing
naming_locals new nothing next (d ∷ ds) y = naming d.name (new next) (naming_locals new nothing (next + 1) ds) y

-- the names of a procedure, if its new variables are number `next` and the ones after it
abbrev pub naming_all : {X : Type 0} → (ℕ → X) → X → (List ℕ → X) → ℕ → List Parameter → List Tree → List Decl
    → List ℕ → X
naming_all new nothing caller next [] arguments locals y = naming_locals new nothing next locals y
naming_all new nothing caller next (p ∷ ps) [] locals y = naming_locals new nothing next locals y
naming_all new nothing caller next (OfValue label name ∷ ps) (e ∷ es) locals y =
    naming name (new next) (naming_all new nothing caller (next + 1) ps es locals) y
naming_all new nothing caller next (OfVariable name ∷ ps) (e ∷ es) locals y =
    naming name (named_by nothing caller e) (naming_all new nothing caller next ps es locals) y

-- the new variables of a call, in order: the values of the scalar arguments, and a 0 for each local
abbrev pub new_values : List Parameter → List Tree → List Decl → List Tree
new_values [] arguments [] = []
new_values [] arguments (d ∷ ds) = Number (pos 0) ∷ new_values [] [] ds
new_values (p ∷ ps) [] [] = []
new_values (p ∷ ps) [] (d ∷ ds) = Number (pos 0) ∷ new_values [] [] ds
new_values (OfValue label name ∷ ps) (e ∷ es) locals = e ∷ new_values ps es locals
new_values (OfVariable name ∷ ps) (e ∷ es) locals = new_values ps es locals

-- their labels
abbrev pub new_labels : List Parameter → List Tree → List Decl → List Label
new_labels [] arguments [] = []
new_labels [] arguments (d ∷ ds) = d.label ∷ new_labels [] [] ds
new_labels (p ∷ ps) [] [] = []
new_labels (p ∷ ps) [] (d ∷ ds) = d.label ∷ new_labels [] [] ds
new_labels (OfValue label name ∷ ps) (e ∷ es) locals = label ∷ new_labels ps es locals
new_labels (OfVariable name ∷ ps) (e ∷ es) locals = new_labels ps es locals
