-- The store at each statement that an execution reaches is within what is known there.
use Rattle.std.proofs.Common.{◌≡◌, ℕ, ◌<◌, ◌≤◌, Option, None, List, length, sym, ◌∙◌, ⊎_elim, arith}
use Rattle.std.proofs.lemmas.Bool.{cases_lt}
use Rattle.std.proofs.lemmas.List.{get_or-replicate, get_or_past, length-replicate}
use Rattle.src_tree.specs.declared.trees.Decl.{Decl}
use Rattle.src_tree.specs.Prelude.{Store, Left, words_of_number, Statement, Block}
use Rattle.scalar_ranges.specs.declared.ranges.Range.{Range}
use Rattle.scalar_ranges.specs.Prelude.{Ranges, range_at, AreWithin, nothing_known, after_statement, inside, Comes, First, Later, InFirst, InSecond, InLoop}
use Rattle.scalar_ranges.proofs.Results.{no-range}
use Rattle.scalar_ranges.proofs.Passing.{statement-within}
use Rattle.scalar_ranges.proofs.Counting.{inside-within}

pub comes-within : (decls : List Decl) (known : Ranges) (b : Block) (before : Left) (there : Ranges) (s : Statement)
    (store : Store) → Comes decls known b before there s store → AreWithin known before.store → AreWithin there store
comes-within decls _ _ _ _ _ _ (First known s rest before) are = are
comes-within decls _ _ _ _ _ _ (Later known s rest before between there t store run comes) are =
    comes-within decls (after_statement decls known s) rest between there t store comes
    (statement-within decls known s before between are run)
comes-within decls _ _ _ _ _ _ (InFirst known t a b rest before there s store holds comes) are =
    comes-within decls known a before there s store comes are
comes-within decls _ _ _ _ _ _ (InSecond known t a b rest before there s store fails comes) are =
    comes-within decls known b before there s store comes are
comes-within decls _ _ _ _ _ _ (InLoop known t a rest before again inner there s store returns enters comes) are =
    comes-within decls (inside decls known t a) a inner there s store comes
    (inside-within decls known t a before again inner are returns enters)

-- a store is within nothing
pub none-at : (count k : ℕ) → range_at (nothing_known count) k ≡ None
none-at count k = ⊎_elim inside past (cases_lt k count)
  where
    inside : k < count → range_at (nothing_known count) k ≡ None
    inside below = get_or-replicate count k None None below

    past : count ≤ k → range_at (nothing_known count) k ≡ None
    past above =
        get_or_past (nothing_known count) k None
        (let long = length-replicate count (let none : Option Range = None in none) in
        let l : length (nothing_known count) ≤ k = omega (arith, above, long) in l)

pub nothing-within : (count : ℕ) (store : Store) → ((k : ℕ) → k < count → 0 < length (words_of_number store k))
    → AreWithin (nothing_known count) store
nothing-within count store words = record {
  words = λ k below.
      let long = length-replicate count (let none : Option Range = None in none) in
      words k (omega (arith, below, long));
  within = λ k r found. no-range r (sym (none-at count k) ∙ found);
}
