-- What is known at the beginning of a program is of public scalars, and each store that has a word for each variable is
-- within it. Where no ranges are kept, none is ever known.
use Rattle.std.proofs.Common.{◌≡◌, ℕ, ◌<◌, Bool, true, false, List, [], ◌∷◌, length, refl, sym, ◌∙◌, arith}
use Rattle.std.specs.Prelude.{if◌then◌else◌}
use Rattle.src_tree.specs.declared.trees.Decl.{Decl}
use Rattle.src_tree.specs.Prelude.{Store, words_of_number, Test, Statement, Block}
use Rattle.scalar_ranges.specs.Prelude.{after_statement, forgotten_block, inside, nothing_known, AreOfPublic, AreWithin, Ranges}
use Rattle.scalar_ranges.proofs.Coming.{nothing-within}
use Rattle.scalar_ranges.proofs.Counts.{after-count, forgotten-count, inside-count}
use Rattle.scalar_ranges.proofs.PublicOnly.{nothing-public}
use Rattle.block_cache_gen.specs.Prelude.{Setting}
use Rattle.compiled_objects.specs.Prelude.{at_start}

pub start-public : (f : Setting) → AreOfPublic f.decls (at_start f).ranges
start-public f = by f.reduces
  where
    by : (b : Bool) → AreOfPublic f.decls (if b then nothing_known (length f.decls) else [])
    by true = nothing-public f.decls (length f.decls)
    by false = nothing-public f.decls 0

pub start-within : (f : Setting) (store : Store) → ((k : ℕ) → k < length f.decls → 0 < length (words_of_number store k))
    → AreWithin (at_start f).ranges store
start-within f store words = by f.reduces
  where
    by : (b : Bool) → AreWithin (if b then nothing_known (length f.decls) else []) store
    by true = nothing-within (length f.decls) store words
    by false = nothing-within 0 store (λ k below. absurd (omega (arith, below)))

none-left : (known : Ranges) → length known ≡ 0 → known ≡ []
none-left [] none = refl
none-left (r ∷ known) none = absurd (omega (arith, none))

none-kept : (known : Ranges) → length known ≡ 0 → (next : Ranges) → length next ≡ length known → next ≡ []
none-kept known none next same = none-left next (same ∙ none)

-- what is empty stays so
pub after-empty : (decls : List Decl) (known : Ranges) (s : Statement) → length known ≡ 0
    → known ≡ after_statement decls known s
after-empty decls known s none =
    none-left known none ∙ sym (none-kept known none (after_statement decls known s) (after-count decls known s))

pub forgotten-empty : (decls : List Decl) (known : Ranges) (a : Block) → length known ≡ 0
    → [] ≡ forgotten_block decls known a
forgotten-empty decls known a none =
    sym (none-kept known none (forgotten_block decls known a) (forgotten-count decls known a))

pub inside-empty : (decls : List Decl) (known : Ranges) (t : Test) (a : Block) → length known ≡ 0
    → [] ≡ inside decls known t a
inside-empty decls known t a none =
    sym (none-kept known none (inside decls known t a) (inside-count decls known t a))
