-- After a statement, and after a block, the store is within what is known there.
use Rattle.std.proofs.Common.{◌≡◌, ℕ, ℤ, Option, Some, None, List, refl, sym, subst}
use Rattle.std.specs.Option.{option_and_then}
use Rattle.gr_word.specs.declared.variables.Label.{Label}
use Rattle.gr_word.specs.declared.variables.Label.TheVariants.{Public, Secret}
use Rattle.src_tree.specs.declared.trees.Decl.{Decl}
use Rattle.src_tree.specs.Prelude.{context_of, label_at, Store, Left, evaluated, variable_number, words_of_number, wrapped, with_word, scalar_set, run_of, run_of_block, Tree, Statement, SetVariable, SetElement, Choice, Loop, Block, Nothing, Then}
use Rattle.scalar_ranges.specs.declared.ranges.Range.{Range}
use Rattle.scalar_ranges.specs.Prelude.{Ranges, IsIn, AreWithin, range_of, learned_as, learned, with_range, after_statement, after_block}
use Rattle.scalar_ranges.proofs.Results.{no-range}
use Rattle.scalar_ranges.proofs.Values.{range-in}
use Rattle.scalar_ranges.proofs.Writing.{words-length, scalar-other, scalar-own, set-within}
use Rattle.scalar_ranges.proofs.Forgetting.{forgotten-within}

left-is : (one other : Left) → Some one ≡ Some other → one ≡ other
left-is one other e = cc

module _ (decls : List Decl) where
  learned-is : (l : Label) (r : Option Range) (s : Range) → learned_as l r ≡ Some s → r ≡ Some s
  learned-is Public r s e = e
  learned-is Secret r s e = no-range s e

  assigned-within : (known : Ranges) (x : List ℕ) (e : Tree) (store : Store) → AreWithin known store
      → AreWithin (with_range decls known x (learned decls known x e))
      (scalar_set store (variable_number decls x) (evaluated decls store e))
  assigned-within known x e store are =
      set-within known store (scalar_set store (variable_number decls x) (evaluated decls store e))
      (variable_number decls x) (learned decls known x e) are
      (λ j. words-length store (variable_number decls x) 0 (evaluated decls store e) j)
      (λ j ne. scalar-other store (variable_number decls x) 0 (evaluated decls store e) j ne)
      (λ s found below.
      subst (IsIn s) (sym (scalar-own store (variable_number decls x) (evaluated decls store e)
      (are.words (variable_number decls x) below)))
      (range-in decls known store are e s
      (learned-is (label_at (context_of decls) x) (range_of decls known e) s found)))

  written-within : (known : Ranges) (x : List ℕ) (at : ℕ) (value : ℤ) (store : Store) → AreWithin known store
      → AreWithin (with_range decls known x None) (with_word store (variable_number decls x) at value)
  written-within known x at value store are =
      set-within known store (with_word store (variable_number decls x) at value) (variable_number decls x) None are
      (λ j. words-length store (variable_number decls x) at value j)
      (λ j ne. scalar-other store (variable_number decls x) at value j ne)
      (λ s none below. no-range s none)

  pub statement-within : (known : Ranges) (s : Statement) (before after : Left) → AreWithin known before.store
      → run_of decls s before ≡ Some after → AreWithin (after_statement decls known s) after.store
  statement-within known (SetVariable x e) before after are run =
      subst (λ (l : Left). AreWithin (with_range decls known x (learned decls known x e)) l.store)
      (left-is _ after run) (assigned-within known x e before.store are)
  statement-within known (SetElement x i e) before after are run =
      subst (λ (l : Left). AreWithin (with_range decls known x None) l.store) (left-is _ after run)
      (written-within known x
      (wrapped (words_of_number before.store (variable_number decls x)) (evaluated decls before.store i))
      (evaluated decls before.store e) before.store are)
  statement-within known (Choice t a b) before after are run =
      forgotten-within decls known (Choice t a b) before after are run
  statement-within known (Loop t a) before after are run =
      forgotten-within decls known (Loop t a) before after are run

  pub block-within : (known : Ranges) (b : Block) (before after : Left) → AreWithin known before.store
      → run_of_block decls b before ≡ Some after → AreWithin (after_block decls known b) after.store
  block-within known Nothing before after are run =
      subst (λ (l : Left). AreWithin known l.store) (left-is before after run) are
  block-within known (Then s rest) before after are run =
      through (λ between is e. block-within (after_statement decls known s) rest between after is e)
      (run_of decls s before) refl run
    where
      through : ((between : Left) → AreWithin (after_statement decls known s) between.store
          → run_of_block decls rest between ≡ Some after
          → AreWithin (after_block decls (after_statement decls known s) rest) after.store)
          → (r : Option Left) → run_of decls s before ≡ r → option_and_then (run_of_block decls rest) r ≡ Some after
          → AreWithin (after_block decls (after_statement decls known s) rest) after.store
      through onward None first e = absurd (cc)
      through onward (Some between) first e = onward between (statement-within known s before between are first) e
