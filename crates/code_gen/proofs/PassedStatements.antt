-- The public code of statements and of blocks is passed at any place, and its notes rise.
use Rattle.std.proofs.Common.{◌≡◌, ℕ, ◌+◌, ◌≤◌, Bool, false, pos, List, [], ◌∷◌, ◌++◌, length, length-append, Some, None, refl, sym, ap, ◌∙◌, subst, arith}
use Rattle.std.specs.Prelude.{if◌then◌else◌}
use Rattle.std.specs.Option.{option_map}
use Rattle.gr_word.specs.declared.variables.Label.{Label}
use Rattle.lt_isa.specs.declared.symbols.Note.{Note}
use Rattle.lt_isa.specs.declared.instructions.Instr.{Instr}
use Rattle.lt_isa.specs.declared.instructions.Instr.TheVariants.{Br}
use Rattle.lt_isa.specs.Prelude.{Parts}
use Rattle.src_tree.specs.Prelude.{Context, context_of, inside, label_of_test, max_weight, Low, LowStatement, LowBlock, parts_weight, statement_weight, block_weight, test_weight, Test, Statement, SetVariable, SetElement, Choice, Loop, Block, Nothing, Then, TypedStatement, TypedBlock, TypedTest, DeclaredOnce}
use Rattle.trace_patterns.specs.Prelude.{Known, note_known, note_of_place, claimed_at}
use Rattle.stretches.specs.Prelude.{HoldsAt}
use Rattle.stretches.proofs.Standing.{standing-first}
use Rattle.stretches.proofs.Passed.{passes-to, no_note-behind, note_at-first, note_at-found}
use Rattle.block_cache_gen.specs.declared.frames.Mode.TheVariants.{Public}
use Rattle.scalar_ranges.specs.Prelude.{Ranges}
use Rattle.block_cache_gen.specs.Prelude.{Setting, HasHomes, ranged, guard_code, set_code, guard_notes, set_notes, Carries, TestHasPublicIndexes, StandsNoted, PassedSet, StatementHasPublicIndexes, BlockHasPublicIndexes}
use Rattle.block_cache_gen.proofs.Ranged.{homes-ranged, test-ranged, block-ranged}
use Rattle.block_cache_gen.proofs.SomeCode.{set_code-some}
use Rattle.block_cache_gen.proofs.PublicGuards.{guard-lie}
use Rattle.block_cache_gen.proofs.PublicAssignments.{set_variable-passes, set_element-passes}
use Rattle.block_cache_gen.proofs.RangesOfNotes.{rise-wider, rise-then, guard-rises, set-rises}
use Rattle.branch_padding.specs.Prelude.{after, behind_loop, within_loop}
use Rattle.code_gen.specs.Prelude.{Padding, opposite, places_over, second_code, choice_code, choice_by, choice_notes, notes_by, is_public, ends_noted, block_ends_noted, head_note, statement_code, block_code, statement_notes, block_notes}
use Rattle.code_gen.proofs.PassedParts.{IsPassed, IsNoted, rise-lies, held-open, none-noted, none-passed, both-noted, both-passed}
use Rattle.code_gen.proofs.RangedParts.{noted-ranged, passed-ranged}
use Rattle.code_gen.proofs.PassedBranches.{PassesGuards, guards-pass, guard-longer, single-noted, single-passed}
use Rattle.code_gen.proofs.PassedChoices.{double-noted, double-passed}
use Rattle.code_gen.proofs.PassedLoops.{loop-noted, loop-passed}
use Rattle.code_gen.proofs.EmittedChoices.{longer}
use Rattle.gr_word.specs.declared.variables.Label.TheVariants as label

-- what is made of a branch on a secret begins with its guard
abbrev pub BeginsGuarded : Padding → Type 0
BeginsGuarded padded =
    (f : Setting) (t : Test) (a b : Block) → length (guard_code f Public 0 t) ≤ length (padded f t a b)

-- and is passed in public code, with the notes of its guard, for any ranges
abbrev pub PassesPadded : Parts → Setting → Padding → Type 0
PassesPadded o f padded =
    (known : Ranges) (t : Test) (a b : Block) → TypedStatement (context_of f.decls) label.Public (Choice t a b)
    → StatementHasPublicIndexes (ranged f known) (Choice t a b) → LowStatement (Choice t a b)
    → statement_weight (context_of f.decls) label.Public (Choice t a b) ≤ max_weight
    → label_of_test (context_of f.decls) t ≡ label.Secret
    → IsPassed o (ranged f known) (padded (ranged f known) t a b) (λ p. guard_notes (ranged f known) 0 p t)

-- a single part, and nothing after it
module _ (f : Setting) (xs : List Instr) (first : ℕ → List Note) (one : Bool) (left : IsNoted f xs first one) where
  alone_size : length (xs ++ []) ≡ length xs
  alone_size = length-append xs [] ∙ omega arith

  alone-noted : IsNoted f (xs ++ []) (λ p. first p ++ []) one
  alone-noted = record {
    rises = λ p.
        let size = alone_size in
        rise-then f (p + 1) (p + length xs + 1) (p + length (xs ++ []) + 1) (first p) [] (omega arith) (omega arith)
        (left.rises p) tt;
    ended = λ p.
        let size = alone_size in
        let same : p + length xs ≡ p + length (xs ++ []) = omega arith in
        note_at-first (first p) [] (p + length (xs ++ [])) refl
        ∙ subst (λ (q : ℕ). note_of_place (first p) q ≡ (if one then Some (head_note f q) else None)) same
        (left.ended p);
  }

  alone-passed : (o : Parts) → IsPassed o f xs first → IsPassed o f (xs ++ []) (λ p. first p ++ [])
  alone-passed o before p k stands notes inside open_here carries =
      let size = alone_size in
      let same : p + length xs ≡ p + length (xs ++ []) = omega arith in
      let a = before p k (standing-first xs [] stands)
      (record {
        inner = λ r after under. notes.inner r after (omega arith)
            ∙ ap (option_map note_known) (note_at-first (first p) [] r refl);
        outer = λ n found. subst (λ (q : ℕ). claimed_at o q ≡ Some (note_known n)) (sym same)
            (notes.outer n (subst (λ (q : ℕ). note_of_place (first p ++ []) q ≡ Some n) same
            (note_at-found (first p) [] (p + length xs) n found)));
      }) (omega arith) open_here carries in
      record {
        last = a.last;
        passes = passes-to o p k (p + length xs) (p + length (xs ++ [])) a.last same a.passes;
        carries = a.carries;
      }

-- an assignment
set-noted : (f : Setting) (s : Statement) → IsNoted f (set_code f Public s) (λ p. set_notes f p s) false
set-noted f s = record {
  rises = λ p.
      rise-wider f (p + 1) (p + length (set_code f Public s)) (p + 1) (p + length (set_code f Public s) + 1)
      (set_notes f p s) (omega arith) (omega arith) (set-rises f p s);
  ended = λ p.
      let q = p + length (set_code f Public s) in
      no_note-behind p q q (set_notes f p s) (rise-lies f (p + 1) p q (set_notes f p s) (omega arith) (set-rises f p s))
      (omega arith);
}

-- a branch on a secret
padded-noted : (f : Setting) (t : Test) (code : List Instr) → length (guard_code f Public 0 t) ≤ length code
    → IsNoted f code (λ p. guard_notes f 0 p t ++ []) false
padded-noted f t code longer = record {
  rises = λ p.
      rise-then f (p + 1) (p + length code + 1) (p + length code + 1) (guard_notes f 0 p t) [] (omega arith)
      (omega arith)
      (rise-wider f (p + 1) (p + length (guard_code f Public 0 t)) (p + 1) (p + length code + 1) (guard_notes f 0 p t)
      (omega arith) (omega arith) (guard-rises f 0 p t)) tt;
  ended = λ p.
      note_at-first (guard_notes f 0 p t) [] (p + length code) refl
      ∙ no_note-behind p (p + length (guard_code f Public 0 t)) (p + length code) (guard_notes f 0 p t)
      (guard-lie f 0 p t) (omega arith);
}

padded-passed : (o : Parts) (f : Setting) (t : Test) (code : List Instr)
    → IsPassed o f code (λ p. guard_notes f 0 p t) → IsPassed o f code (λ p. guard_notes f 0 p t ++ [])
padded-passed o f t code passed p k stands notes inside open_here carries =
    let gn = guard_notes f 0 p t in
    passed p k stands
    (record {
      inner = λ r after under. notes.inner r after under ∙ ap (option_map note_known) (note_at-first gn [] r refl);
      outer = λ n found. notes.outer n (note_at-found gn [] (p + length code) n found);
    }) inside open_here carries

-- a choice, by the label of its guard
module _ (f : Setting) (t : Test) (xs : List Instr) (first : ℕ → List Note) (one : Bool) (left : IsNoted f xs first one)
  where
    abbrev choice_notes_by : Label → List Instr → (ℕ → List Note) → Bool → ℕ → List Note
    choice_notes_by l ys second two p =
        guard_notes f 0 p t
        ++ notes_by l
        (choice_notes f (p + (length (guard_code f Public 0 t) + 1)) xs ys
        (first (p + (length (guard_code f Public 0 t) + 1)))
        (second (p + (length (guard_code f Public 0 t) + (1 + (length xs + 1))))) (one, two))

    choice-noted : (l : Label) (ys : List Instr) (second : ℕ → List Note) (two : Bool) → IsNoted f ys second two
        → (code : List Instr) → length (guard_code f Public 0 t) ≤ length code
        → IsNoted f (choice_by l (choice_code (guard_code f Public 0 t) t.cmp xs ys) code)
        (choice_notes_by l ys second two) (is_public l)
    choice-noted label.Public [] second two right code longer = single-noted f t xs first one left
    choice-noted label.Public (i ∷ more) second two right code longer =
        double-noted f t xs first one left i more second two right
    choice-noted label.Secret ys second two right code longer = padded-noted f t code longer

    choice-passed : (o : Parts) → HasHomes o f → DeclaredOnce f.decls → (l : Label) (ys : List Instr)
        (second : ℕ → List Note) (two : Bool) → IsNoted f ys second two → (code : List Instr)
        → (l ≡ label.Public → PassesGuards o f t × (IsPassed o f xs first × IsPassed o f ys second))
        → (l ≡ label.Secret → IsPassed o f code (λ p. guard_notes f 0 p t))
        → IsPassed o f (choice_by l (choice_code (guard_code f Public 0 t) t.cmp xs ys) code)
        (choice_notes_by l ys second two)
    choice-passed o homes once label.Public [] second two right code public secret =
        let h = public refl in single-passed f t xs first one left o homes once h.0 h.1.0
    choice-passed o homes once label.Public (i ∷ more) second two right code public secret =
        let h = public refl in
        double-passed f t xs first one left i more second two right o homes once h.0 h.1.0 h.1.1
    choice-passed o homes once label.Secret ys second two right code public secret =
        padded-passed o f t code (secret refl)

-- the blocks of a public choice weigh as public code
public_weight : (known : Context) (t : Test) (a b : Block) → label_of_test known t ≡ label.Public
    → statement_weight known label.Public (Choice t a b) ≤ max_weight
    → (block_weight known label.Public a ≤ max_weight) × (block_weight known label.Public b ≤ max_weight)
public_weight known t a b public light =
    let light' : 1 + (test_weight t +
    (block_weight known label.Public a + block_weight known label.Public b)) ≤ max_weight =
    subst (λ (l : Label). 1 + (test_weight t + parts_weight l
    (block_weight known l a + block_weight known l b)) ≤ max_weight)
    public light in
    (omega arith, omega arith)

-- an assignment, and the guard of a branch
module _ (o : Parts) (f : Setting) (homes : HasHomes o f) (once : DeclaredOnce f.decls) where
  set_at : (s : Statement) → ((p : ℕ) (k holds : Known) → StandsNoted o p (set_code f Public s) (set_notes f p s)
      → HoldsAt o p k holds → Carries f holds → PassedSet o f p (set_code f Public s) k)
      → IsPassed o f (set_code f Public s) (λ p. set_notes f p s)
  set_at s passed p k stands notes inside open_here carries =
      let h = held-open o f homes once p k open_here carries in
      let a = passed p k h.held
      (record { code_stands = stands; noted = notes.inner; behind = inside }) h.here h.carries in
      record { last = a.last; passes = a.passes; carries = a.carries }

  guard_at : (t : Test) → TypedTest (context_of f.decls) t → TestHasPublicIndexes f t → Low t.left → Low t.right
      → label_of_test (context_of f.decls) t ≡ label.Public → PassesGuards o f t
  guard_at t typed indexes low high public =
      guards-pass o f homes once t typed indexes (omega arith) (omega arith) public

-- what the code of statements relies on, for any ranges
pub record Relies (o : Parts) (padded : Padding) (f : Setting) : Type 0 where
  pub homes : HasHomes o f
  pub once : DeclaredOnce f.decls
  pub secret : PassesPadded o f padded

relies-ranged : (o : Parts) (padded : Padding) (f : Setting) (known : Ranges) → Relies o padded f
    → Relies o padded (ranged f known)
relies-ranged o padded f known on =
    record { homes = homes-ranged o f known on.homes; once = on.once; secret = on.secret }

-- the places of notes
module _ (padded : Padding) (begins : BeginsGuarded padded) where
  choice_longer : (f : Setting) (t : Test) (a b : Block) (l : Label) (xs ys : List Instr)
      → 1 ≤ length (choice_by l (choice_code (guard_code f Public 0 t) t.cmp xs ys) (padded f t a b))
  choice_longer f t a b label.Public xs ys =
      omega (
        arith,
        guard-longer f t,
        length-append (guard_code f Public 0 t) (Br (opposite t.cmp) 0 1 (pos (places_over xs ys)) ∷
            (xs ++ second_code ys)),
      )
  choice_longer f t a b label.Secret xs ys = omega (arith, guard-longer f t, begins f t a b)

  pub statement-longer : (f : Setting) (s : Statement) → 1 ≤ length (statement_code f padded s)
  statement-longer f (SetVariable x e) = set_code-some f Public (SetVariable x e) tt
  statement-longer f (SetElement x i e) = set_code-some f Public (SetElement x i e) tt
  statement-longer f (Choice t a b) =
      choice_longer f t a b (label_of_test (context_of f.decls) t) (block_code f padded a) (block_code f padded b)
  statement-longer f (Loop t a) = omega arith

  block-longer : (f : Setting) (s : Statement) (rest : Block) → 1 ≤ length (block_code f padded (Then s rest))
  block-longer f s rest =
      longer (statement_code f padded s) (block_code (after f s) padded rest) (statement-longer f s)

  mutual
    pub statement-noted : (f : Setting) (s : Statement)
        → IsNoted f (statement_code f padded s) (λ p. statement_notes f padded p s) (ends_noted f.decls s)
    statement-noted f (SetVariable x e) = set-noted f (SetVariable x e)
    statement-noted f (SetElement x i e) = set-noted f (SetElement x i e)
    statement-noted f (Choice t a b) =
        choice-noted f t (block_code f padded a) (λ p. block_notes f padded p a) (block_ends_noted f.decls a)
        (block-noted f a) (label_of_test (context_of f.decls) t) (block_code f padded b)
        (λ p. block_notes f padded p b) (block_ends_noted f.decls b) (block-noted f b) (padded f t a b)
        (begins f t a b)
    statement-noted f (Loop t a) =
        loop-noted f (behind_loop f a).ranges t (block_code (within_loop f t a) padded a)
        (λ p. block_notes (within_loop f t a) padded p a) (block_ends_noted f.decls a)
        (noted-ranged f (within_loop f t a).ranges (block_code (within_loop f t a) padded a)
        (λ p. block_notes (within_loop f t a) padded p a) (block_ends_noted f.decls a)
        (block-noted (within_loop f t a) a))

    -- the notes of a block are within its code
    pub block-noted : (f : Setting) (b : Block)
        → IsNoted f (block_code f padded b) (λ p. block_notes f padded p b) (block_ends_noted f.decls b)
    block-noted f Nothing = none-noted f
    block-noted f (Then s Nothing) =
        alone-noted f (statement_code f padded s) (λ p. statement_notes f padded p s) (ends_noted f.decls s)
        (statement-noted f s)
    block-noted f (Then s (Then r rest)) =
        both-noted f (statement_code f padded s) (block_code (after f s) padded (Then r rest))
        (λ p. statement_notes f padded p s) (λ p. block_notes (after f s) padded p (Then r rest))
        (ends_noted f.decls s) (block_ends_noted f.decls (Then r rest)) (statement-noted f s)
        (noted-ranged f (after f s).ranges (block_code (after f s) padded (Then r rest))
        (λ p. block_notes (after f s) padded p (Then r rest)) (block_ends_noted f.decls (Then r rest))
        (block-noted (after f s) (Then r rest)))
        (block-longer (after f s) r rest)

  -- those of a loop's body, and of the rest of a block
  body-noted : (f : Setting) (t : Test) (a : Block)
      → IsNoted f (block_code (within_loop f t a) padded a) (λ p. block_notes (within_loop f t a) padded p a)
      (block_ends_noted f.decls a)
  body-noted f t a =
      noted-ranged f (within_loop f t a).ranges (block_code (within_loop f t a) padded a)
      (λ p. block_notes (within_loop f t a) padded p a) (block_ends_noted f.decls a)
      (block-noted (within_loop f t a) a)

  rest-noted : (f : Setting) (s : Statement) (rest : Block)
      → IsNoted f (block_code (after f s) padded rest) (λ p. block_notes (after f s) padded p rest)
      (block_ends_noted f.decls rest)
  rest-noted f s rest =
      noted-ranged f (after f s).ranges (block_code (after f s) padded rest)
      (λ p. block_notes (after f s) padded p rest) (block_ends_noted f.decls rest) (block-noted (after f s) rest)

  -- what is passed
  module _ (o : Parts) where
    mutual
      pub statement-passed : (f : Setting) → Relies o padded f → (s : Statement)
          → TypedStatement (context_of f.decls) label.Public s → StatementHasPublicIndexes f s → LowStatement s
          → statement_weight (context_of f.decls) label.Public s ≤ max_weight
          → IsPassed o f (statement_code f padded s) (λ p. statement_notes f padded p s)
      statement-passed f on (SetVariable x e) typed indexes low light =
          set_at o f on.homes on.once (SetVariable x e)
          (set_variable-passes o f on.homes on.once label.Public x e typed indexes (omega arith))
      statement-passed f on (SetElement x i e) typed indexes low light =
          let first = low.0 in
          let second = low.1 in
          set_at o f on.homes on.once (SetElement x i e)
          (set_element-passes o f on.homes on.once label.Public x i e typed indexes (omega arith) (omega arith))
      statement-passed f on (Choice t a b) typed indexes low light =
          choice-passed f t (block_code f padded a) (λ p. block_notes f padded p a) (block_ends_noted f.decls a)
          (block-noted f a) o on.homes on.once (label_of_test (context_of f.decls) t) (block_code f padded b)
          (λ p. block_notes f padded p b) (block_ends_noted f.decls b) (block-noted f b) (padded f t a b)
          (λ public. let w = public_weight (context_of f.decls) t a b public light in (
            guard_at o f on.homes on.once t typed.0 indexes.0 low.0.0 low.0.1 public,
            (
              block-passed f on a (subst (λ (l : Label). TypedBlock
                  (context_of f.decls) l a) public typed.1.0) indexes.1.0 low.1.0 w.0,
              block-passed f on b (subst (λ (l : Label). TypedBlock
                  (context_of f.decls) l b) public typed.1.1) indexes.1.1 low.1.1 w.1,
            ),
          ))
          (λ hidden. on.secret f.ranges t a b typed indexes low light hidden)
      statement-passed f on (Loop t a) typed indexes low light =
          let weight : block_weight (context_of f.decls) label.Public a ≤ max_weight = omega arith in
          let g = behind_loop f a in
          let inner = within_loop f t a in
          loop-passed f g.ranges t (block_code inner padded a) (λ p. block_notes inner padded p a)
          (block_ends_noted f.decls a) (body-noted f t a) o on.homes on.once
          (guard_at o g (homes-ranged o f g.ranges on.homes) on.once t typed.0
          (test-ranged f g.ranges t indexes.0) low.0.0 low.0.1 typed.1.0)
          (passed-ranged o f inner.ranges (block_code inner padded a) (λ p. block_notes inner padded p a)
          (block-passed inner (relies-ranged o padded f inner.ranges on) a typed.1.1.1
          (block-ranged f inner.ranges a indexes.1) low.1 weight))

      -- a block of public code is passed
      pub block-passed : (f : Setting) → Relies o padded f → (b : Block) → TypedBlock (context_of f.decls) label.Public b
          → BlockHasPublicIndexes f b → LowBlock b → block_weight (context_of f.decls) label.Public b ≤ max_weight
          → IsPassed o f (block_code f padded b) (λ p. block_notes f padded p b)
      block-passed f on Nothing typed indexes low light = none-passed o f
      block-passed f on (Then s Nothing) typed indexes low light =
          let weight : statement_weight (context_of f.decls) label.Public s ≤ max_weight = omega arith in
          alone-passed f (statement_code f padded s) (λ p. statement_notes f padded p s) (ends_noted f.decls s)
          (statement-noted f s) o (statement-passed f on s typed.0 indexes.0 low.0 weight)
      block-passed f on (Then s (Then r rest)) typed indexes low light =
          let weight : statement_weight (context_of f.decls) label.Public s ≤ max_weight = omega arith in
          let behind : block_weight (context_of f.decls) label.Public (Then r rest) ≤ max_weight = omega arith in
          let g = after f s in
          both-passed f (statement_code f padded s) (block_code g padded (Then r rest))
          (λ p. statement_notes f padded p s) (λ p. block_notes g padded p (Then r rest)) (ends_noted f.decls s)
          (block_ends_noted f.decls (Then r rest)) (statement-noted f s) (rest-noted f s (Then r rest)) o
          (statement-longer f s) (block-longer g r rest) (statement-passed f on s typed.0 indexes.0 low.0 weight)
          (passed-ranged o f g.ranges (block_code g padded (Then r rest))
          (λ p. block_notes g padded p (Then r rest))
          (block-passed g (relies-ranged o padded f g.ranges on) (Then r rest) typed.1
          (block-ranged f g.ranges (Then r rest) indexes.1) low.1 behind))
