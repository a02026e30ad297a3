-- In the body of a loop, the store is within what is known there.
use Rattle.std.proofs.Common.{◌≡◌, ℕ, ◌-◌, ◌<◌, ◌≤◌, Bool, true, false, cond, ℤ, pos, Option, Some, None, List, refl, sym, ap, ◌∙◌, subst, arith}
use Rattle.std.specs.Prelude.{nat_le}
use Rattle.std.proofs.lemmas.Bool.{ltb-true, leb-true}
use Rattle.gr_word.specs.Prelude.{compared}
use Rattle.gr_word.specs.declared.operations.Cmp.{Cmp}
use Rattle.gr_word.specs.declared.operations.Cmp.TheVariants.{Eq, Ne, Lt, Le, Gt, Ge}
use Rattle.src_tree.specs.declared.trees.Decl.{Decl}
use Rattle.src_tree.specs.Prelude.{Store, Left, evaluated, variable_number, scalar, guard_holds, Tree, Number, Variable, Element, Operation, Test, Block}
use Rattle.scalar_ranges.specs.declared.ranges.Range.{Range}
use Rattle.scalar_ranges.specs.Prelude.{Ranges, range_at, IsIn, AreWithin, range_of, with_range, forgotten_block, after_block, counted_by, counted, keeps_least, inside_by, inside_of, inside, Enters, Returns, AtOnce, Again}
use Rattle.scalar_ranges.proofs.Results.{no-range, from-is, from-in}
use Rattle.scalar_ranges.proofs.Values.{range-in}
use Rattle.scalar_ranges.proofs.Writing.{set-within}
use Rattle.scalar_ranges.proofs.Forgetting.{forgotten-less_block, less-within, forgotten-within_again}
use Rattle.scalar_ranges.proofs.Passing.{block-within}

-- a scalar that isn't below a least and passes the comparison with a word in a range
counted-in : (cmp : Cmp) (start bound guess : Range) (y z : ℤ) (n : ℕ) → y ≡ pos n → start.least ≤ n → IsIn bound z
    → compared cmp y z ≡ true → counted_by cmp start bound ≡ Some guess → IsIn guess y
counted-in Lt start bound guess y z n is least other holds e =
    let below : n < other.number = ltb-true n other.number
    (ap (λ u. compared Lt (pos n) u) (sym other.is) ∙ ap (λ u. compared Lt u z) (sym is) ∙ holds) in
    let most = other.most in
    from-in start.least (bound.most - 1) guess n y (from-is start.least (bound.most - 1) guess e) is least
    (omega (arith, below, most))
counted-in Le start bound guess y z n is least other holds e =
    let below : n ≤ other.number = leb-true n other.number
    (ap (λ u. compared Le (pos n) u) (sym other.is) ∙ ap (λ u. compared Le u z) (sym is) ∙ holds) in
    let most = other.most in
    from-in start.least bound.most guess n y (from-is start.least bound.most guess e) is least
    (omega (arith, below, most))
counted-in rest start bound guess y z n is least other holds e = no-range guess e

module _ (decls : List Decl) (known : Ranges) (t : Test) (a : Block) where
  abbrev Forgotten : Ranges
  Forgotten = forgotten_block decls known a

  same-store : (within : Ranges) (store next : Store) → next ≡ store → AreWithin within store → AreWithin within next
  same-store within store next same are = subst (AreWithin within) (sym same) are

  -- what the body doesn't assign
  pub returned-forgotten : (before again : Left) → AreWithin known before.store → Returns decls t a before again
      → AreWithin Forgotten again.store
  returned-forgotten before _ are AtOnce =
      less-within Forgotten known before.store (forgotten-less_block decls known a) are
  returned-forgotten before _ are (Again between inner after earlier enters run) =
      forgotten-within_again decls known a inner after
      (same-store Forgotten between.store inner.store enters.store (returned-forgotten before between are earlier)) run

  -- a scalar that the loop counts
  module _ (x : List ℕ) (start bound guess final : Range) (left : t.left ≡ Variable x)
      (begins : range_at known (variable_number decls x) ≡ Some start)
      (bounded : range_of decls Forgotten t.right ≡ Some bound)
      (counts : counted_by t.cmp start bound ≡ Some guess)
      (ends : range_at (after_block decls (with_range decls Forgotten x (Some guess)) a) (variable_number decls x)
      ≡ Some final) (keeps : start.least ≤ final.least) where
    record Counts (store : Store) : Type 0 where
      within : AreWithin Forgotten store
      number : ℕ
      is : scalar store (variable_number decls x) ≡ pos number
      least : start.least ≤ number

    some-is : (r s : Range) → Some r ≡ Some s → r ≡ s
    some-is r s e = cc

    entered : (store : Store) → Counts store → guard_holds decls store t ≡ true
        → AreWithin (with_range decls Forgotten x (Some guess)) store
    entered store c holds =
        set-within Forgotten store store (variable_number decls x) (Some guess) c.within (λ j. refl) (λ j ne. refl)
        (λ s found below.
        subst (λ r. IsIn r (scalar store (variable_number decls x))) (some-is guess s found)
        (counted-in t.cmp start bound guess (scalar store (variable_number decls x)) (evaluated decls store t.right)
        c.number c.is c.least (range-in decls Forgotten store c.within t.right bound bounded)
        (ap (λ e. compared t.cmp (evaluated decls store e) (evaluated decls store t.right)) (sym left) ∙ holds) counts))

    returned : (before again : Left) → AreWithin known before.store → Returns decls t a before again
        → Counts again.store
    returned before _ are AtOnce =
        let first = are.within (variable_number decls x) start begins in
        record {
          within = less-within Forgotten known before.store (forgotten-less_block decls known a) are;
          number = first.number;
          is = first.is;
          least = first.least;
        }
    returned before _ are (Again between inner after earlier enters run) =
        let c = returned before between are earlier in
        let inside-body = same-store (with_range decls Forgotten x (Some guess)) between.store inner.store enters.store
        (entered between.store c enters.holds) in
        let behind = block-within decls (with_range decls Forgotten x (Some guess)) a inner after inside-body run in
        let last = behind.within (variable_number decls x) final ends in
        let low = last.least in
        record {
          within = returned-forgotten before after are (Again between inner after earlier enters run);
          number = last.number;
          is = last.is;
          least = omega (arith, low, keeps);
        }

    counted-within : (before again inner : Left) → AreWithin known before.store → Returns decls t a before again
        → Enters decls t again inner → AreWithin (with_range decls Forgotten x (Some guess)) inner.store
    counted-within before again inner are returns enters =
        same-store (with_range decls Forgotten x (Some guess)) again.store inner.store enters.store
        (entered again.store (returned before again are returns) enters.holds)

  -- in each iteration, the store is within what is known in the body
  module _ (before again inner : Left) (are : AreWithin known before.store) (returns : Returns decls t a before again)
      (enters : Enters decls t again inner) where
    otherwise : AreWithin Forgotten inner.store
    otherwise = same-store Forgotten again.store inner.store enters.store (returned-forgotten before again are returns)

    by-keeps : (x : List ℕ) (start bound guess final : Range) → t.left ≡ Variable x
        → range_at known (variable_number decls x) ≡ Some start → range_of decls Forgotten t.right ≡ Some bound
        → counted_by t.cmp start bound ≡ Some guess
        → range_at (after_block decls (with_range decls Forgotten x (Some guess)) a) (variable_number decls x)
        ≡ Some final
        → (b : Bool) → nat_le start.least final.least ≡ b
        → AreWithin (cond b (with_range decls Forgotten x (Some guess)) Forgotten) inner.store
    by-keeps x start bound guess final left begins bounded counts ends true keeps =
        counted-within x start bound guess final left begins bounded counts ends
        (leb-true start.least final.least keeps) before again inner are returns enters
    by-keeps x start bound guess final left begins bounded counts ends false keeps = otherwise

    by-final : (x : List ℕ) (start bound guess : Range) → t.left ≡ Variable x
        → range_at known (variable_number decls x) ≡ Some start → range_of decls Forgotten t.right ≡ Some bound
        → counted_by t.cmp start bound ≡ Some guess → (final : Option Range)
        → range_at (after_block decls (with_range decls Forgotten x (Some guess)) a) (variable_number decls x) ≡ final
        → AreWithin (cond (keeps_least (Some start) final) (with_range decls Forgotten x (Some guess)) Forgotten)
        inner.store
    by-final x start bound guess left begins bounded counts None ends = otherwise
    by-final x start bound guess left begins bounded counts (Some final) ends =
        by-keeps x start bound guess final left begins bounded counts ends (nat_le start.least final.least) refl

    by-count : (x : List ℕ) (start bound : Range) → t.left ≡ Variable x
        → range_at known (variable_number decls x) ≡ Some start → range_of decls Forgotten t.right ≡ Some bound
        → (guess : Option Range) → counted_by t.cmp start bound ≡ guess
        → AreWithin (inside_by decls Forgotten x (Some start) guess a) inner.store
    by-count x start bound left begins bounded None counts = otherwise
    by-count x start bound left begins bounded (Some guess) counts =
        by-final x start bound guess left begins bounded counts
        (range_at (after_block decls (with_range decls Forgotten x (Some guess)) a) (variable_number decls x)) refl

    by-start : (x : List ℕ) → t.left ≡ Variable x → (start bound : Option Range)
        → range_at known (variable_number decls x) ≡ start → range_of decls Forgotten t.right ≡ bound
        → AreWithin (inside_by decls Forgotten x start (counted t.cmp start bound) a) inner.store
    by-start x left None bound begins bounded = otherwise
    by-start x left (Some start) None begins bounded = otherwise
    by-start x left (Some start) (Some bound) begins bounded =
        by-count x start bound left begins bounded (counted_by t.cmp start bound) refl

    by-left : (e : Tree) → t.left ≡ e → AreWithin (inside_of decls known t a e) inner.store
    by-left (Variable x) left =
        by-start x left (range_at known (variable_number decls x)) (range_of decls Forgotten t.right) refl refl
    by-left other left = otherwise

    pub inside-within : AreWithin (inside decls known t a) inner.store
    inside-within = by-left t.left refl
