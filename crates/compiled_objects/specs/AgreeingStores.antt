-- When two stores of a program agree on what is public: they have the same words in each public variable.
-- (Low-equivalent memories, as in Volpano, Smith and Irvine, A sound type system for secure flow analysis, 1996.)
use Rattle.std.specs.Prelude.{◌≡◌, ℕ, List, Some, slice_get}
use Rattle.gr_word.specs.declared.variables.Label.TheVariants.{Public}
use Rattle.src_tree.specs.declared.trees.Decl.{Decl}
use Rattle.src_tree.specs.Meaning.{Store, words_of_number}

abbrev pub AgreeOnPublic : List Decl → Store → Store → Type 0
AgreeOnPublic decls one other = (k : ℕ) (d : Decl) → slice_get decls k ≡ Some d → d.label ≡ Public
    → words_of_number one k ≡ words_of_number other k
