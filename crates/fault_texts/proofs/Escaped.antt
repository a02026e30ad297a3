-- A name that is added to a text, one character after another.
use Rattle.std.proofs.Common.{ℕ, List, [], ◌∷◌, ◌++◌, Option, Some, None, flat_map, sym, subst}
use Rattle.std.proofs.lemmas.List.{append-nil, flat_map_more}
use Rattle.gr_base.proofs.Added.{Adds-then}
use Rattle.gr_base.specs.Prelude.{Adds}
use Rattle.fault_texts.specs.Prelude.{escaped_char}

pub nothing_added : (text : Option (List ℕ)) → Adds text text (flat_map escaped_char [])
nothing_added None = tt
nothing_added (Some text) = sym (append-nil text)

pub character_added : (old now new : Option (List ℕ)) (before : List ℕ) (c : ℕ)
    → Adds old now (flat_map escaped_char before) → Adds now new (escaped_char c)
    → Adds old new (flat_map escaped_char (before ++ c ∷ []))
character_added old now new before c first next =
    subst (Adds old new) (flat_map_more escaped_char [] before c)
    (Adds-then old now new (flat_map escaped_char before) (escaped_char c) first next)
