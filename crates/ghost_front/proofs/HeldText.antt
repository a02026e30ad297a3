-- What contracts see of a sink that keeps a text, as it takes more.
use Rattle.std.proofs.Common.{ℕ, List, Option, Some, None}
use Rattle.gr_base.specs.Prelude.{Adds}

pub adds_none : (held : Option (List ℕ)) (bytes : List ℕ) → Adds held None bytes
adds_none None bytes = tt
adds_none (Some before) bytes = tt
