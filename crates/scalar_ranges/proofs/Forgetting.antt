-- Ranges of which some are forgotten, and the variables that statements assign.
use Rattle.std.proofs.Common.{◌≡◌, ℕ, ◌<◌, ◌≤◌, ◌⊎◌, inl, inr, ℤ, Some, None, List, length, set, refl, sym, ap, ◌∙◌, subst, ⊎_elim, arith}
use Rattle.std.proofs.lemmas.Bool.{cases_eq, cases_lt}
use Rattle.std.proofs.lemmas.List.{get_or-set_same, get_or-set_other, get_or_past, length-set}
use Rattle.src_tree.specs.declared.trees.Decl.{Decl}
use Rattle.src_tree.specs.Prelude.{Store, Left, scalar, words_of_number, variable_number, guard_holds, run_of, run_of_block, Statement, SetVariable, SetElement, Choice, Loop, Block, Nothing, Then}
use Rattle.src_tree.proofs.KeptByRuns.{IsKept, one_keeps, both_keep, either_keeps, loop_keeps}
use Rattle.scalar_ranges.specs.declared.ranges.Range.{Range}
use Rattle.scalar_ranges.specs.Prelude.{Ranges, range_at, IsIn, AreWithin, forgotten_statement, forgotten_block}
use Rattle.scalar_ranges.proofs.Results.{no-range}
use Rattle.scalar_ranges.proofs.Writing.{words-length, scalar-other}

-- some of what is known is forgotten
pub record IsLess (less more : Ranges) : Type 0 where
  pub count : length less ≡ length more
  pub each : (k : ℕ) → (range_at less k ≡ None) ⊎ (range_at less k ≡ range_at more k)

less-same : (known : Ranges) → IsLess known known
less-same known = record { count = refl; each = λ k. inr refl }

less-then : (first second third : Ranges) → IsLess first second → IsLess second third → IsLess first third
less-then first second third one two = record {
  count = one.count ∙ two.count;
  each = λ k.
      ⊎_elim (λ none. inl none)
      (λ same. ⊎_elim (λ none. inl (same ∙ none)) (λ more. inr (same ∙ more)) (two.each k))
      (one.each k);
}

none-own : (known : Ranges) (k : ℕ) → range_at (set known k None) k ≡ None
none-own known k = ⊎_elim inside past (cases_lt k (length known))
  where
    inside : k < length known → range_at (set known k None) k ≡ None
    inside below = get_or-set_same known k None None below

    past : length known ≤ k → range_at (set known k None) k ≡ None
    past above =
        get_or_past (set known k None) k None
        (let long = length-set known k None in let l : length (set known k None) ≤ k = omega (arith, above, long) in l)

less-none : (known : Ranges) (k : ℕ) → IsLess (set known k None) known
less-none known k = record {
  count = length-set known k None;
  each = λ j. ⊎_elim (λ same. inl (ap (range_at (set known k None)) same ∙ none-own known k))
      (λ ne. inr (get_or-set_other known k j None None ne)) (cases_eq j k);
}

mutual
  pub forgotten-less : (decls : List Decl) (known : Ranges) (s : Statement)
      → IsLess (forgotten_statement decls known s) known
  forgotten-less decls known (SetVariable x e) = less-none known (variable_number decls x)
  forgotten-less decls known (SetElement x i e) = less-none known (variable_number decls x)
  forgotten-less decls known (Choice t a b) =
      less-then _ _ _ (forgotten-less_block decls (forgotten_block decls known a) b)
      (forgotten-less_block decls known a)
  forgotten-less decls known (Loop t a) = forgotten-less_block decls known a

  pub forgotten-less_block : (decls : List Decl) (known : Ranges) (b : Block)
      → IsLess (forgotten_block decls known b) known
  forgotten-less_block decls known Nothing = less-same known
  forgotten-less_block decls known (Then s rest) =
      less-then _ _ _ (forgotten-less_block decls (forgotten_statement decls known s) rest)
      (forgotten-less decls known s)

-- a store is within less
pub less-within : (less more : Ranges) (store : Store) → IsLess less more → AreWithin more store → AreWithin less store
less-within less more store is are = record {
  words = λ k below. let count = is.count in are.words k (omega (arith, below, count));
  within = λ k r found.
      ⊎_elim (λ none. no-range r (sym none ∙ found)) (λ same. are.within k r (sym same ∙ found)) (is.each k);
}

-- nothing is known of the variables that statements assign
abbrev mutual
  pub Lacks : List Decl → Ranges → Statement → Type 0
  Lacks decls known (SetVariable x e) = range_at known (variable_number decls x) ≡ None
  Lacks decls known (SetElement x i e) = range_at known (variable_number decls x) ≡ None
  Lacks decls known (Choice t a b) = LacksAll decls known a × LacksAll decls known b
  Lacks decls known (Loop t a) = LacksAll decls known a

  pub LacksAll : List Decl → Ranges → Block → Type 0
  LacksAll decls known Nothing = Unit {0}
  LacksAll decls known (Then s rest) = Lacks decls known s × LacksAll decls known rest

less-lacks_at : (less more : Ranges) (k : ℕ) → IsLess less more → range_at more k ≡ None → range_at less k ≡ None
less-lacks_at less more k is none = ⊎_elim (λ e. e) (λ same. same ∙ none) (is.each k)

mutual
  less-lacks : (decls : List Decl) (less more : Ranges) (s : Statement) → IsLess less more → Lacks decls more s
      → Lacks decls less s
  less-lacks decls less more (SetVariable x e) is lacks = less-lacks_at less more (variable_number decls x) is lacks
  less-lacks decls less more (SetElement x i e) is lacks = less-lacks_at less more (variable_number decls x) is lacks
  less-lacks decls less more (Choice t a b) is lacks =
      (less-lacks_block decls less more a is lacks.0, less-lacks_block decls less more b is lacks.1)
  less-lacks decls less more (Loop t a) is lacks = less-lacks_block decls less more a is lacks

  less-lacks_block : (decls : List Decl) (less more : Ranges) (b : Block) → IsLess less more → LacksAll decls more b
      → LacksAll decls less b
  less-lacks_block decls less more Nothing is lacks = tt
  less-lacks_block decls less more (Then s rest) is lacks =
      (less-lacks decls less more s is lacks.0, less-lacks_block decls less more rest is lacks.1)

mutual
  pub forgotten-lacks : (decls : List Decl) (known : Ranges) (s : Statement)
      → Lacks decls (forgotten_statement decls known s) s
  forgotten-lacks decls known (SetVariable x e) = none-own known (variable_number decls x)
  forgotten-lacks decls known (SetElement x i e) = none-own known (variable_number decls x)
  forgotten-lacks decls known (Choice t a b) = (
    less-lacks_block decls _ _ a (forgotten-less_block decls (forgotten_block decls known a) b)
        (forgotten-lacks_block decls known a),
    forgotten-lacks_block decls (forgotten_block decls known a) b,
  )
  forgotten-lacks decls known (Loop t a) = forgotten-lacks_block decls known a

  pub forgotten-lacks_block : (decls : List Decl) (known : Ranges) (b : Block)
      → LacksAll decls (forgotten_block decls known b) b
  forgotten-lacks_block decls known Nothing = tt
  forgotten-lacks_block decls known (Then s rest) = (
    less-lacks decls _ _ s (forgotten-less_block decls (forgotten_statement decls known s) rest)
        (forgotten-lacks decls known s),
    forgotten-lacks_block decls (forgotten_statement decls known s) rest,
  )

-- the scalars of which something is known keep their values, and each variable its number of words
pub record KeepsKnown (known : Ranges) (before after : Left) : Type 0 where
  pub lengths : (k : ℕ) → length (words_of_number after.store k) ≡ length (words_of_number before.store k)
  pub scalars : (k : ℕ) (r : Range) → range_at known k ≡ Some r → scalar after.store k ≡ scalar before.store k

keeps-kept : (known : Ranges) → IsKept (KeepsKnown known)
keeps-kept known = record {
  same = λ before. record { lengths = λ k. refl; scalars = λ k r found. refl };
  goes_on = λ before between after first second. record {
    lengths = λ k. second.lengths k ∙ first.lengths k;
    scalars = λ k r found. second.scalars k r found ∙ first.scalars k r found;
  };
  turn = λ store turns. record { lengths = λ k. refl; scalars = λ k r found. refl };
}

module _ (decls : List Decl) (known : Ranges) where
  written-keeps : (before : Left) (n at : ℕ) (value : ℤ) (next : Left)
      → next ≡ record before { store = set before.store n (set (words_of_number before.store n) at value) }
      → range_at known n ≡ None → KeepsKnown known before next
  written-keeps before n at value next is none =
      subst (KeepsKnown known before) (sym is)
      (record {
        lengths = λ k. words-length before.store n at value k;
        scalars = λ k r found.
            scalar-other before.store n at value k
            (λ same. no-range r (sym none ∙ ap (range_at known) (sym same) ∙ found));
      })

  mutual
    -- statements keep the scalars that they don't assign
    pub lacking-keeps : (s : Statement) → Lacks decls known s → (before after : Left)
        → run_of decls s before ≡ Some after → KeepsKnown known before after
    lacking-keeps (SetVariable x e) lacks before after f =
        one_keeps (KeepsKnown known) (keeps-kept known) before _ after
        (written-keeps before (variable_number decls x) _ _ _ refl lacks) f
    lacking-keeps (SetElement x i e) lacks before after f =
        one_keeps (KeepsKnown known) (keeps-kept known) before _ after
        (written-keeps before (variable_number decls x) _ _ _ refl lacks) f
    lacking-keeps (Choice t a b) lacks before after f =
        either_keeps (KeepsKnown known) (keeps-kept known) (guard_holds decls before.store t) (run_of_block decls a)
        (run_of_block decls b) (lacking-keeps_block a lacks.0) (lacking-keeps_block b lacks.1) before after f
    lacking-keeps (Loop t a) lacks before after f =
        loop_keeps (KeepsKnown known) (keeps-kept known) (λ store. guard_holds decls store t) (run_of_block decls a)
        (lacking-keeps_block a lacks) before after f

    pub lacking-keeps_block : (b : Block) → LacksAll decls known b → (before after : Left)
        → run_of_block decls b before ≡ Some after → KeepsKnown known before after
    lacking-keeps_block Nothing lacks before after f =
        let kept = keeps-kept known in
        one_keeps (KeepsKnown known) kept before before after (kept.same before) f
    lacking-keeps_block (Then s rest) lacks before after f =
        both_keep (KeepsKnown known) (keeps-kept known) (run_of decls s) (run_of_block decls rest)
        (lacking-keeps s lacks.0) (lacking-keeps_block rest lacks.1) before after f

-- so a store that was within it still is
pub keeps-within : (known : Ranges) (before after : Left) → KeepsKnown known before after
    → AreWithin known before.store → AreWithin known after.store
keeps-within known before after keeps are = record {
  words = λ k below. let same = keeps.lengths k in let some = are.words k below in omega (arith, same, some);
  within = λ k r found. subst (IsIn r) (sym (keeps.scalars k r found)) (are.within k r found);
}

-- after statements a store is within what they don't assign
pub forgotten-within : (decls : List Decl) (known : Ranges) (s : Statement) (before after : Left)
    → AreWithin known before.store → run_of decls s before ≡ Some after
    → AreWithin (forgotten_statement decls known s) after.store
forgotten-within decls known s before after are run =
    keeps-within (forgotten_statement decls known s) before after
    (lacking-keeps decls (forgotten_statement decls known s) s (forgotten-lacks decls known s) before after run)
    (less-within _ known before.store (forgotten-less decls known s) are)

-- the same of a block whose variables are forgotten already
pub forgotten-within_again : (decls : List Decl) (known : Ranges) (b : Block) (before after : Left)
    → AreWithin (forgotten_block decls known b) before.store → run_of_block decls b before ≡ Some after
    → AreWithin (forgotten_block decls known b) after.store
forgotten-within_again decls known b before after are run =
    keeps-within (forgotten_block decls known b) before after
    (lacking-keeps_block decls (forgotten_block decls known b) b (forgotten-lacks_block decls known b) before after run)
    are
