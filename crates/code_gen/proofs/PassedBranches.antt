-- The public code of a choice and of a loop, made of that of its parts: where its notes are, and that it is passed.
use Rattle.std.proofs.Common.{◌≡◌, ℕ, ◌+◌, ◌<◌, ◌≤◌, Bool, true, false, ℤ, pos, List, [], ◌∷◌, ◌++◌, length, length-append, inl, inr, Some, None, refl, sym, ap, ◌∙◌, subst, ⊎_elim, arith}
use Rattle.std.specs.Prelude.{slice_get}
use Rattle.std.specs.Option.{option_map}
use Rattle.std.proofs.lemmas.Bool.{cases_lt}
use Rattle.gr_word.specs.declared.operations.Cmp.{Cmp}
use Rattle.gr_word.specs.declared.variables.Label.{Label}
use Rattle.lt_isa.specs.declared.symbols.Note.{Note}
use Rattle.lt_isa.specs.declared.instructions.Instr.{Instr}
use Rattle.lt_isa.specs.declared.instructions.Instr.TheVariants.{Jmp, Br}
use Rattle.lt_isa.specs.Prelude.{Parts, target_of}
use Rattle.src_tree.specs.Prelude.{context_of, height_of, higher, label_of, label_of_test, secret_label, Test, TypedTest, DeclaredOnce}
use Rattle.trace_patterns.specs.Prelude.{Known, is_secret, note_known, note_of_place, claimed_at}
use Rattle.stretches.specs.Prelude.{StandsAt, AsItComes, Passes, Done, Away, NotesBetween}
use Rattle.stretches.proofs.Standing.{standing-first, standing-rest, standing-head, standing-tail}
use Rattle.stretches.proofs.Passed.{passes-then, passes-to, passes-one, ruled-at, branch-falls, jump-leaves, LieBetween, no_note-before, no_note-behind, note_at-first, note_at-second}
use Rattle.block_cache_gen.specs.declared.frames.Mode.TheVariants.{Public}
use Rattle.block_cache_gen.specs.Prelude.{Setting, HasHomes, expr_code, guard_code, guard_notes, Carries, TestHasPublicIndexes}
use Rattle.block_cache_gen.proofs.NotesOfCode.{expression-longer}
use Rattle.block_cache_gen.proofs.PublicGuards.{guard-lie, guard-passes}
use Rattle.block_cache_gen.proofs.RangesOfNotes.{NotesRise, rise-wider, rise-then, guard-rises}
use Rattle.code_gen.specs.Prelude.{opposite, choice_code, head_note}
use Rattle.code_gen.proofs.PassedParts.{head_claim, IsOpenAt, IsPassed, IsNoted, rise-lies, closed, closed_by, closed_other, closed_found, closed_rises, fits-head, held-open, stands-as}
use Rattle.gr_word.specs.declared.variables.Label.TheVariants as label

-- the sides of a public guard
public_sides : (l r : Label) → higher l r ≡ label.Public → (l ≡ label.Public) × (r ≡ label.Public)
public_sides label.Public r e = (refl, e)
public_sides label.Secret r e = absurd (let f : ◌≡◌ {A = Label} label.Secret label.Public = e in cc)

-- a guard in public code, whose sides are public
pub record GuardPassed (o : Parts) (f : Setting) (t : Test) (p : ℕ) (k : Known) (q : ℕ) : Type 0 where
  pub last : Known
  pub passes : Passes o p k q last
  pub carries : Carries f last
  pub left : is_secret last 0 ≡ false
  pub right : is_secret last 1 ≡ false

-- the code of the guard of a branch is passed
abbrev pub PassesGuards : Parts → Setting → Test → Type 0
PassesGuards o f t =
    (p : ℕ) (k : Known) → StandsAt o p (guard_code f Public 0 t)
    → NotesBetween o p (p + length (guard_code f Public 0 t)) (guard_notes f 0 p t)
    → p + length (guard_code f Public 0 t) < length o.code → IsOpenAt o f p → Carries f k
    → GuardPassed o f t p k (p + length (guard_code f Public 0 t))

-- the code of a public guard is passed
pub guards-pass : (o : Parts) (f : Setting) → HasHomes o f → DeclaredOnce f.decls → (t : Test)
    → TypedTest (context_of f.decls) t → TestHasPublicIndexes f t → height_of t.left ≤ 16 → height_of t.right ≤ 16
    → label_of_test (context_of f.decls) t ≡ label.Public → PassesGuards o f t
guards-pass o f homes once t typed indexes low high public p k stands between inside open_here carries =
    let held = held-open o f homes once p k open_here carries in
    let sides = public_sides (label_of (context_of f.decls) t.left) (label_of (context_of f.decls) t.right) public in
    let g = guard-passes o f homes once t typed indexes 0 p k held.held (omega arith) (omega arith)
    (record { code_stands = stands; noted = between; behind = inside }) held.here held.carries in
    record {
      last = g.last;
      passes = g.passes;
      carries = g.carries;
      left = g.left ∙ ap secret_label sides.0;
      right = g.right ∙ ap secret_label sides.1;
    }

-- a guard has some code
pub guard-longer : (f : Setting) (t : Test) → 1 ≤ length (guard_code f Public 0 t)
guard-longer f t =
    omega (
      arith,
      length-append (expr_code f Public 0 t.left) (expr_code f Public 1 t.right),
      expression-longer f t.left 0,
    )

-- how a branch falls through, and how a jump leaves, if its target is a place that is open to all
module _ (o : Parts) (f : Setting) (homes : HasHomes o f) (once : DeclaredOnce f.decls) where
  -- a branch by a public guard is passed
  pub branch-on : (p q : ℕ) (k : Known) (cmp : Cmp) (offset : ℤ) → Carries f k → is_secret k 0 ≡ false
      → is_secret k 1 ≡ false → claimed_at o p ≡ None → slice_get o.code p ≡ Some (Br cmp 0 1 offset)
      → target_of o p offset ≡ q → q < length o.code → p + 1 < length o.code → claimed_at o q ≡ Some (head_claim f)
      → Passes o p k (p + 1) k
  branch-on p q k cmp offset carries first second none at target inside next noted =
      passes-one o p k k k (Br cmp 0 1 offset) (AsItComes k none) at
      (branch-falls o p k (head_claim f) cmp 0 1 offset first second
      (subst (λ (x : ℕ). x < length o.code) (sym target) inside)
      (subst (λ (x : ℕ). claimed_at o x ≡ Some (head_claim f)) (sym target) noted) (fits-head o f homes once k carries))
      next

  -- a jump is passed
  pub jump-away : (p q : ℕ) (k : Known) (offset : ℤ) → Carries f k → IsOpenAt o f p
      → slice_get o.code p ≡ Some (Jmp offset) → target_of o p offset ≡ q → q < length o.code
      → claimed_at o q ≡ Some (head_claim f) → claimed_at o (p + 1) ≡ Some (head_claim f)
      → Passes o p k (p + 1) (head_claim f)
  jump-away p q k offset carries open_here at target inside noted next =
      let h = held-open o f homes once p k open_here carries in
      Away p k h.held (head_claim f) (p + 1) (head_claim f) h.here
      (ruled-at o p h.held (Jmp offset) at
      ∙ jump-leaves o p h.held (head_claim f) offset (subst (λ (x : ℕ). x < length o.code) (sym target) inside)
      (subst (λ (x : ℕ). claimed_at o x ≡ Some (head_claim f)) (sym target) noted)
      (fits-head o f homes once h.held h.carries))
      next (Done (p + 1) (head_claim f))

-- a choice without a second block
module _ (f : Setting) (t : Test) (xs : List Instr) (first : ℕ → List Note) (one : Bool) (left : IsNoted f xs first one)
  where
    abbrev guard_size : ℕ
    guard_size = length (guard_code f Public 0 t)

    abbrev single : List Instr
    single = choice_code (guard_code f Public 0 t) t.cmp xs []

    abbrev body_notes : ℕ → List Note
    body_notes p = closed f (first (p + (guard_size + 1))) one (p + (guard_size + 1) + length xs)

    single_size : length single ≡ guard_size + 1 + length xs
    single_size =
        let behind : List Instr = xs ++ [] in
        let size : length behind ≡ length xs + 0 = length-append xs [] in
        omega (arith, length-append (guard_code f Public 0 t) (Br (opposite t.cmp) 0 1 (pos (length xs + 1)) ∷ behind))

    body_rises : (p : ℕ) → NotesRise f (p + (guard_size + 1)) (p + length single + 1) (body_notes p)
    body_rises p =
        let size = single_size in
        let a = p + (guard_size + 1) in
        let q = a + length xs in
        rise-wider f a (q + 1) a (p + length single + 1) (body_notes p) (omega arith) (omega arith)
        (closed_rises f (first a) one a q (omega arith)
        (rise-wider f (a + 1) (q + 1) a (q + 1) (first a) (omega arith) (omega arith) (left.rises a)) (left.ended a))

    single_lies : (p : ℕ) → LieBetween p (p + guard_size) (guard_notes f 0 p t)
    single_lies p = guard-lie f 0 p t

    body_lies : (p : ℕ) → LieBetween (p + guard_size) (p + length single + 1) (body_notes p)
    body_lies p =
        rise-lies f (p + (guard_size + 1)) (p + guard_size) (p + length single + 1) (body_notes p) (omega arith)
        (body_rises p)

    -- the notes of a choice of one block are within its code
    pub single-noted : IsNoted f single (λ p. guard_notes f 0 p t ++ body_notes p) true
    single-noted = record {
      rises = λ p.
          let size = single_size in
          rise-then f (p + 1) (p + (guard_size + 1)) (p + length single + 1) (guard_notes f 0 p t) (body_notes p)
          (omega arith) (omega arith)
          (rise-wider f (p + 1) (p + guard_size) (p + 1) (p + (guard_size + 1)) (guard_notes f 0 p t) (omega arith)
          (omega arith) (guard-rises f 0 p t))
          (body_rises p);
      ended = λ p.
          let size = single_size in
          let a = p + (guard_size + 1) in
          let same : a + length xs ≡ p + length single = omega arith in
          note_at-second (guard_notes f 0 p t) (body_notes p) (p + length single)
          (no_note-behind p (p + guard_size) (p + length single) (guard_notes f 0 p t) (single_lies p) (omega arith))
          ∙ subst (λ (q : ℕ). note_of_place (body_notes p) q ≡ Some (head_note f q)) same
          (closed_by f (first a) one (a + length xs) (left.ended a));
    }

    -- a choice of one block is passed
    pub single-passed : (o : Parts) → HasHomes o f → DeclaredOnce f.decls → PassesGuards o f t → IsPassed o f xs first
        → IsPassed o f single (λ p. guard_notes f 0 p t ++ body_notes p)
    single-passed o homes once guards body p k stands notes inside open_here carries =
        let size = single_size in
        let guard = guard_code f Public 0 t in
        let behind : List Instr = xs ++ [] in
        let branch = Br (opposite t.cmp) 0 1 (pos (length xs + 1)) in
        let pb = p + guard_size in
        let a = p + (guard_size + 1) in
        let q = a + length xs in
        let same : q ≡ p + length single = omega arith in
        let gn = guard_notes f 0 p t in
        let bn = body_notes p in
        let lie_guard = single_lies p in
        let lie_body = body_lies p in
        let low : (r : ℕ) → r ≤ pb → note_of_place (gn ++ bn) r ≡ note_of_place gn r = (λ r le.
        note_at-first gn bn r (no_note-before pb (p + length single + 1) r bn lie_body le)) in
        let high : (r : ℕ) → pb ≤ r → note_of_place (gn ++ bn) r ≡ note_of_place bn r = (λ r le.
        note_at-second gn bn r (no_note-behind p pb r gn lie_guard le)) in
        let some = guard-longer f t in
        let g = guards p k (standing-first guard (branch ∷ behind) stands)
        (λ r after under. notes.inner r after (omega arith) ∙ ap (option_map note_known) (low r (omega arith)))
        (omega arith) open_here carries in
        let none : claimed_at o pb ≡ None = notes.inner pb (omega arith) (omega arith)
        ∙ ap (option_map note_known) (low pb (omega arith) ∙ no_note-behind p pb pb gn lie_guard (omega arith)) in
        let end : note_of_place bn q ≡ Some (head_note f q) = closed_by f (first a) one q (left.ended a) in
        let noted : claimed_at o q ≡ Some (head_claim f) = subst (λ (x : ℕ). claimed_at o x ≡ Some (head_claim f))
        (sym same)
        (notes.outer (head_note f q) (subst (λ (x : ℕ). note_of_place (gn ++ bn) x ≡ Some (head_note f q)) same
        (high q (omega arith) ∙ end))) in
        let rest = standing-rest guard (branch ∷ behind) stands in
        let on = branch-on o f homes once pb q g.last (opposite t.cmp) (pos
        (length xs + 1)) g.carries g.left g.right none
        (standing-head branch behind rest) (omega arith) (omega arith) (omega arith) noted in
        let start : pb + 1 ≡ a = omega arith in
        let open_body : IsOpenAt o f a =
        ⊎_elim
        (λ (lt : a < q). let there : claimed_at o a ≡ None = notes.inner a (omega arith) (omega arith)
        ∙ ap (option_map note_known) (high a (omega arith)
        ∙ closed_other f (first a) one q a (λ e. absurd (omega arith))
        ∙ no_note-before a (q + 1) a (first a) (rise-lies f (a + 1) a (q + 1) (first a) (omega arith)
        (left.rises a)) (omega arith)) in
        let r : IsOpenAt o f a = inl there in r)
        (λ (le : q ≤ a). let e : q ≡ a = omega arith in
        let r : IsOpenAt o f a = inr (subst (λ (x : ℕ). claimed_at o x ≡ Some (head_claim f)) e noted) in r)
        (cases_lt a q) in
        let b = body a g.last (stands-as o (pb + 1) a xs start (standing-first xs []
        (standing-tail branch behind rest)))
        (record {
          inner = λ r after under. notes.inner r (omega arith) (omega arith)
              ∙ ap (option_map note_known) (high r (omega arith)
              ∙ closed_other f (first a) one q r (λ e. absurd (omega arith)));
          outer = λ n found. subst (λ (x : ℕ). claimed_at o x ≡ Some (note_known n)) (sym same)
              (notes.outer n (subst (λ (x : ℕ). note_of_place (gn ++ bn) x ≡ Some n) same
              (high q (omega arith) ∙ closed_found f (first a) one q q n found)));
        }) (omega arith) open_body g.carries in
        record {
          last = b.last;
          passes
              = passes-to o p k q (p + length single) b.last same
              (passes-then o p k pb g.last g.passes q b.last
              (passes-then o pb g.last a g.last (passes-to o pb g.last (pb + 1) a g.last start on) q b.last b.passes));
          carries = b.carries;
        }
