-- What folding makes of a program means the same, is well typed if the program is, and isn't larger.
use Rattle.std.proofs.Common.{◌≡◌, ℕ, zero, suc, ◌+◌, ◌≤◌, Bool, true, false, if◌then◌else◌, ℤ, Option, Some, None, List, refl, sym, ap, ◌∙◌, subst, arith}
use Rattle.std.specs.Option.{option_and_then, option_map}
use Rattle.gr_word.specs.Prelude.{FitsWants, IsWord, compared}
use Rattle.gr_word.specs.declared.variables.Want.{Want}
use Rattle.gr_word.specs.declared.variables.Label.{Label}
use Rattle.gr_word.specs.declared.variables.Label.TheVariants.{Public, Secret}
use Rattle.src_tree.specs.declared.trees.Decl.{Decl}
use Rattle.src_tree.specs.Prelude.{Context, context_of, higher, inside, label_at, label_of, label_of_test, IsWithinLimits, Low, LowBlock, LowStatement, block_weight, parts_weight, statement_weight, test_weight, weight_of, Store, Left, Execution, variable_number, element_set, scalar_set, with_word, evaluated, guard_holds, in_turn, turn_taken, looped, run_of, run_of_block, meaning, Tree, Test, Statement, SetVariable, SetElement, Choice, Loop, Block, Nothing, Then, Source, IsTyped, Flows, TypedBlock, TypedStatement, TypedTest}
use Rattle.src_tree.proofs.Loops.{left, same_after}
use Rattle.source_meaning.proofs.Keeping.{keeps_word}
use Rattle.source_folding.specs.Prelude.{folded, folded_test, folded_statement, folded_block, folded_source, TestNumbersFit, StatementNumbersFit, BlockNumbersFit}
use Rattle.source_folding.proofs.FoldedTrees.{value-word, folded-value, folded-label, folded-typed, folded-height, folded-weight}

-- ---- the meaning

either-same : (b : Bool) (one other two another : Option Left) → one ≡ two → other ≡ another
    → (if b then one else other) ≡ (if b then two else another)
either-same true one other two another e f = e
either-same false one other two another e f = f

-- Two executions that do the same on stores of words for some variables, and leave such stores.
record Agree (wants : List Want) (run instead : Execution) : Type 0 where
  same : (before : Left) → FitsWants wants before.store → run before ≡ instead before
  fits : (before after : Left) → FitsWants wants before.store → instead before ≡ Some after
      → FitsWants wants after.store

-- a state that is left
left-fits : (wants : List Want) (next after : Left) → FitsWants wants next.store → Some next ≡ Some after
    → FitsWants wants after.store
left-fits wants next after fits e = subst (λ (l : Left). FitsWants wants l.store) (let f : next ≡ after = cc in f) fits

module _ (wants : List Want) where
  -- one execution, and then another
  agree-then : (first second one other : Execution) → Agree wants first one → Agree wants second other
      → Agree wants (in_turn first second) (in_turn one other)
  agree-then first second one other begins ends = record {
    same = λ before fits.
        ap (option_and_then second) (begins.same before fits)
        ∙ same_after second other (one before) (λ after e. ends.same after (begins.fits before after fits e));
    fits = λ before after fits e. through before after fits (one before) refl e;
  }
    where
      through : (before after : Left) → FitsWants wants before.store → (r : Option Left) → one before ≡ r
          → option_and_then other r ≡ Some after → FitsWants wants after.store
      through before after fits None e f = absurd (let g : ◌≡◌ {A = Option Left} None (Some after) = f in cc)
      through before after fits (Some between) e f = ends.fits between after (begins.fits before between fits e) f

  -- an iteration, and then the rest of a loop
  agree-turn : (body instead rest other : Execution) → Agree wants body instead → Agree wants rest other
      → (turns : ℕ) (store : Store) → FitsWants wants store
      → (turn_taken body rest turns store ≡ turn_taken instead other turns store)
      × ((after : Left) → turn_taken instead other turns store ≡ Some after → FitsWants wants after.store)
  agree-turn body instead rest other bodies rests zero store fits =
      (refl, λ after e. absurd (let g : ◌≡◌ {A = Option Left} None (Some after) = e in cc))
  agree-turn body instead rest other bodies rests (suc turns) store fits =
      let both = agree-then body rest instead other bodies rests in
      (both.same (left store turns) fits, λ after e. both.fits (left store turns) after fits e)

  -- a loop
  stays : (b : Bool) (before after : Left) → FitsWants wants before.store
      → (if b then None else Some before) ≡ Some after → FitsWants wants after.store
  stays true before after fits e = absurd (let g : ◌≡◌ {A = Option Left} None (Some after) = e in cc)
  stays false before after fits e = left-fits wants before after fits e

  turns-or-stays : (b : Bool) (turned : Option Left) (before after : Left) → FitsWants wants before.store
      → (turned ≡ Some after → FitsWants wants after.store)
      → (if b then turned else Some before) ≡ Some after → FitsWants wants after.store
  turns-or-stays true turned before after fits turn e = turn e
  turns-or-stays false turned before after fits turn e = left-fits wants before after fits e

  looped-more : (test other : Store → Bool) (body instead : Execution)
      → ((store : Store) → FitsWants wants store → test store ≡ other store) → Agree wants body instead
      → (most : ℕ) → Agree wants (looped test body most) (looped other instead most)
      → Agree wants (looped test body (suc most)) (looped other instead (suc most))
  unfolding looped
  looped-more test other body instead tests bodies most rest = record {
    same = λ before fits.
        ap (λ b. if b then turn_taken body (looped test body most) before.turns before.store else Some before)
        (tests before.store fits)
        ∙ ap (λ (r : Option Left). if other before.store then r else Some before)
        (agree-turn body instead (looped test body most) (looped other instead most) bodies rest before.turns
        before.store fits).0;
    fits = λ before after fits e.
        turns-or-stays (other before.store) _ before after fits
        ((agree-turn body instead (looped test body most) (looped other instead most) bodies rest before.turns
        before.store fits).1 after)
        e;
  }

  agree-looped : (test other : Store → Bool) (body instead : Execution)
      → ((store : Store) → FitsWants wants store → test store ≡ other store) → Agree wants body instead
      → (most : ℕ) → Agree wants (looped test body most) (looped other instead most)
  unfolding looped
  agree-looped test other body instead tests bodies zero = record {
    same = λ before fits. ap (λ b. if b then None else Some before) (tests before.store fits);
    fits = λ before after fits e. stays (other before.store) before after fits e;
  }
  agree-looped test other body instead tests bodies (suc most) =
      looped-more test other body instead tests bodies most (agree-looped test other body instead tests bodies most)

  -- one of two executions
  agree-either : (test other : Store → Bool) (one two first second : Execution)
      → ((store : Store) → FitsWants wants store → test store ≡ other store)
      → Agree wants one first → Agree wants two second
      → Agree wants (λ before. if test before.store then one before else two before)
      (λ before. if other before.store then first before else second before)
  agree-either test other one two first second tests here there = record {
    same = λ before fits.
        ap (λ (c : Bool). if c then one before else two before) (tests before.store fits)
        ∙ either-same (other before.store) _ _ _ _ (here.same before fits) (there.same before fits);
    fits = λ before after fits e.
        either-fits (other before.store) before after (λ f. here.fits before after fits f)
        (λ f. there.fits before after fits f) e;
  }
    where
      either-fits : (b : Bool) (before after : Left) → (first before ≡ Some after → FitsWants wants after.store)
          → (second before ≡ Some after → FitsWants wants after.store)
          → (if b then first before else second before) ≡ Some after → FitsWants wants after.store
      either-fits true before after here there e = here e
      either-fits false before after here there e = there e

  module _ (decls : List Decl) where
    guards-agree : (t : Test) → TestNumbersFit t → (store : Store) → FitsWants wants store
        → guard_holds decls store (folded_test t) ≡ guard_holds decls store t
    guards-agree t is store fits =
        ap (λ z. compared t.cmp z (evaluated decls store (folded t.right)))
        (folded-value decls wants store fits t.left is.0)
        ∙ ap (compared t.cmp (evaluated decls store t.left)) (folded-value decls wants store fits t.right is.1)

    -- a word that is written keeps what the store fits
    written : (before : Left) (k at : ℕ) (word : ℤ) → FitsWants wants before.store → IsWord word
        → FitsWants wants (with_word before.store k at word)
    written before k at word fits is = let kept = keeps_word before.store k at word is in kept.fits wants fits

    mutual
      statements-agree : (s : Statement) → StatementNumbersFit s
          → Agree wants (run_of decls (folded_statement s)) (run_of decls s)
      statements-agree (SetVariable x e) is = record {
        same = λ before fits.
            ap (λ z. let l : Left = record before {
              store = scalar_set before.store (variable_number decls x) z;
            } in Some l)
            (folded-value decls wants before.store fits e is);
        fits = λ before after fits f.
            left-fits wants (record before {
              store = scalar_set before.store (variable_number decls x) (evaluated decls before.store e);
            }) after
            (written before (variable_number decls x) 0 (evaluated decls before.store e) fits
            (value-word decls wants before.store fits e is))
            f;
      }
      statements-agree (SetElement x i e) is = record {
        same = λ before fits.
            ap (λ y. let l : Left = record before {
              store = element_set before.store (variable_number decls x) y (evaluated decls before.store (folded e));
            } in Some l)
            (folded-value decls wants before.store fits i is.0)
            ∙ ap (λ z. let l : Left = record before {
              store = element_set before.store (variable_number decls x) (evaluated decls before.store i) z;
            } in Some l)
            (folded-value decls wants before.store fits e is.1);
        fits = λ before after fits f.
            left-fits wants (record before {
              store =
                  element_set before.store (variable_number decls x) (evaluated decls before.store i)
                  (evaluated decls before.store e);
            }) after
            (written before (variable_number decls x) _ (evaluated decls before.store e) fits
            (value-word decls wants before.store fits e is.1))
            f;
      }
      statements-agree (Choice t a b) is =
          agree-either (λ store. guard_holds decls store (folded_test t)) (λ store. guard_holds decls store t)
          (run_of_block decls (folded_block a)) (run_of_block decls (folded_block b)) (run_of_block decls a)
          (run_of_block decls b) (guards-agree t is.0) (blocks-agree a is.1.0) (blocks-agree b is.1.1)
      statements-agree (Loop t a) is =
          let body = blocks-agree a is.1 in
          let turns = agree-looped (λ store. guard_holds decls store (folded_test t))
          (λ store. guard_holds decls store t) (run_of_block decls (folded_block a)) (run_of_block decls a)
          (guards-agree t is.0) body in
          record {
            same = λ before fits. (turns before.turns).same before fits;
            fits = λ before after fits e. (turns before.turns).fits before after fits e;
          }

      blocks-agree : (b : Block) → BlockNumbersFit b
          → Agree wants (run_of_block decls (folded_block b)) (run_of_block decls b)
      blocks-agree Nothing is = record {
        same = λ before fits. refl;
        fits = λ before after fits e. left-fits wants before after fits e;
      }
      blocks-agree (Then s rest) is =
          agree-then (run_of decls (folded_statement s)) (run_of_block decls (folded_block rest)) (run_of decls s)
          (run_of_block decls rest) (statements-agree s is.0) (blocks-agree rest is.1)

pub folded-means : (p : Source) (wants : List Want) (store : Store) (turns : ℕ) → BlockNumbersFit p.body
    → FitsWants wants store → meaning (folded_source p) store turns ≡ meaning p store turns
folded-means p wants store turns is fits =
    let start : Left = record { store = store; turns = turns } in
    let body = blocks-agree wants p.decls p.body is in
    ap (option_map (λ (left : Left). left.store)) (body.same start fits)

-- the label of a guard, and so of the code inside
pub folded-test_label : (known : Context) (t : Test) → label_of_test known (folded_test t) ≡ label_of_test known t
folded-test_label known t =
    ap (λ l. higher l (label_of known (folded t.right))) (folded-label known t.left)
    ∙ ap (higher (label_of known t.left)) (folded-label known t.right)

folded-inside : (known : Context) (code : Label) (t : Test) → inside known code (folded_test t) ≡ inside known code t
folded-inside known code t = ap (higher code) (folded-test_label known t)

-- the types
folded-flows : (known : Context) (code to : Label) (e : Tree) → Flows (higher code (label_of known e)) to
    → Flows (higher code (label_of known (folded e))) to
folded-flows known code to e = subst (λ l. Flows (higher code l) to) (sym (folded-label known e))

folded-test_typed : (known : Context) (t : Test) → TypedTest known t → TypedTest known (folded_test t)
folded-test_typed known t (first, second) = (folded-typed known t.left first, folded-typed known t.right second)

mutual
  statement-typed : (known : Context) (code : Label) (s : Statement) → TypedStatement known code s
      → TypedStatement known code (folded_statement s)
  statement-typed known code (SetVariable x e) (used, (typed, flows)) =
      (used, (folded-typed known e typed, folded-flows known code (label_at known x) e flows))
  statement-typed known code (SetElement x i e) ((used, (index, shown)), (typed, flows)) = (
    (used, (folded-typed known i index, subst (λ l. Flows l (label_at known x)) (sym (folded-label known i)) shown)),
    (folded-typed known e typed, folded-flows known code (label_at known x) e flows),
  )
  statement-typed known code (Choice t a b) (test, (first, second)) = (
    folded-test_typed known t test,
    (
      subst (λ l. TypedBlock known l (folded_block a)) (sym (folded-inside known code t))
          (block-typed known (inside known code t) a first),
      subst (λ l. TypedBlock known l (folded_block b)) (sym (folded-inside known code t))
          (block-typed known (inside known code t) b second),
    ),
  )
  statement-typed known code (Loop t a) (test, (public, (outer, body))) =
      (folded-test_typed known t test, (folded-test_label known t ∙ public, (outer, block-typed known code a body)))

  block-typed : (known : Context) (code : Label) (b : Block) → TypedBlock known code b
      → TypedBlock known code (folded_block b)
  block-typed known code Nothing typed = tt
  block-typed known code (Then s rest) (first, others) =
      (statement-typed known code s first, block-typed known code rest others)

pub folded-source_typed : (p : Source) → IsTyped p → IsTyped (folded_source p)
folded-source_typed p is = record { once = is.once; body = block-typed (context_of p.decls) Public p.body is.body }

-- the heights
folded-low : (e : Tree) → Low e → Low (folded e)
folded-low e low = let less = folded-height e in omega arith

mutual
  statement-low : (s : Statement) → LowStatement s → LowStatement (folded_statement s)
  statement-low (SetVariable x e) low = folded-low e low
  statement-low (SetElement x i e) (first, second) = (folded-low i first, folded-low e second)
  statement-low (Choice t a b) ((left, right), (first, second)) =
      ((folded-low t.left left, folded-low t.right right), (block-low a first, block-low b second))
  statement-low (Loop t a) ((left, right), body) =
      ((folded-low t.left left, folded-low t.right right), block-low a body)

  block-low : (b : Block) → LowBlock b → LowBlock (folded_block b)
  block-low Nothing low = tt
  block-low (Then s rest) (first, others) = (statement-low s first, block-low rest others)

-- the weights
folded-test_weight : (t : Test) → test_weight (folded_test t) ≤ test_weight t
folded-test_weight t =
    let first = folded-weight t.left in
    let second = folded-weight t.right in
    omega arith

parts-below : (l : Label) (m n : ℕ) → m ≤ n → parts_weight l m ≤ parts_weight l n
parts-below Public m n less = less
parts-below Secret m n less = omega arith

choice-weighs : (known : Context) (code : Label) (t : Test) (a b : Block) (l : Label) → l ≡ inside known code t
    → test_weight (folded_test t) ≤ test_weight t
    → block_weight known (inside known code t) (folded_block a) ≤ block_weight known (inside known code t) a
    → block_weight known (inside known code t) (folded_block b) ≤ block_weight known (inside known code t) b
    → 1 + (test_weight (folded_test t)
    + parts_weight l (block_weight known l (folded_block a) + block_weight known l (folded_block b)))
    ≤ 1 + (test_weight t
    + parts_weight (inside known code t)
    (block_weight known (inside known code t) a + block_weight known (inside known code t) b))
choice-weighs known code t a b l is test first second =
    subst (λ l. 1 + (test_weight (folded_test t)
    + parts_weight l (block_weight known l (folded_block a) + block_weight known l (folded_block b)))
    ≤ 1 + (test_weight t
    + parts_weight (inside known code t)
    (block_weight known (inside known code t) a + block_weight known (inside known code t) b)))
    (sym is)
    (let parts = parts-below (inside known code t)
    (block_weight known (inside known code t) (folded_block a) + block_weight known (inside known code t) (folded_block b))
    (block_weight known (inside known code t) a + block_weight known (inside known code t) b) (omega arith) in
    omega (arith, parts, test))

mutual
  statement-weighs : (known : Context) (code : Label) (s : Statement)
      → statement_weight known code (folded_statement s) ≤ statement_weight known code s
  statement-weighs known code (SetVariable x e) = let less = folded-weight e in omega arith
  statement-weighs known code (SetElement x i e) =
      let first = folded-weight i in
      let second = folded-weight e in
      omega arith
  statement-weighs known code (Choice t a b) =
      choice-weighs known code t a b (inside known code (folded_test t)) (folded-inside known code t)
      (folded-test_weight t) (block-weighs known (inside known code t) a) (block-weighs known (inside known code t) b)
  statement-weighs known code (Loop t a) =
      let first = folded-test_weight t in
      let second = block-weighs known code a in
      omega arith

  block-weighs : (known : Context) (code : Label) (b : Block)
      → block_weight known code (folded_block b) ≤ block_weight known code b
  block-weighs known code Nothing = omega arith
  block-weighs known code (Then s rest) =
      let first = statement-weighs known code s in
      let others = block-weighs known code rest in
      omega arith

pub folded-weighs : (p : Source) → weight_of (folded_source p) ≤ weight_of p
folded-weighs p = block-weighs (context_of p.decls) Public p.body

pub folded-within : (p : Source) → IsWithinLimits p → IsWithinLimits (folded_source p)
folded-within p is =
    let less = folded-weighs p in
    let most = is.weight in
    record {
      variables = is.variables;
      lengths = is.lengths;
      words = is.words;
      heights = block-low p.body is.heights;
      weight = omega (arith, less, most);
    }
