-- A sink that only grows: from each moment to itself, and through two stretches. For the contracts of private
-- functions, and for proofs.
use Rattle.std.specs.Prelude.{List, [], ◌++◌, ℕ, Option, Some, None}
use Rattle.std.proofs.Common.{refl, sym, append_assoc}
use Rattle.std.proofs.lemmas.List.{append-nil}
use Rattle.machine_verbs.specs.Watched.{Grows}

pub Grows-itself : (held : Option (List ℕ)) → Grows held held
Grows-itself None = tt
Grows-itself (Some bytes) = ([], sym (append-nil bytes))

pub Grows-through : (before between after : Option (List ℕ))
    → Grows before between → Grows between after → Grows before after
Grows-through (Some a) (Some b) (Some c) first second = (first.0 ++ second.0, rw (second.1, first.1, append_assoc) refl)
Grows-through (Some a) (Some b) None first second = tt
Grows-through (Some a) None (Some c) first second = absurd second
Grows-through (Some a) None None first second = tt
Grows-through None (Some b) after first second = absurd first
Grows-through None None (Some c) first second = absurd second
Grows-through None None None first second = tt
