-- The public code of a choice with two blocks, made of that of its parts: where its notes are, and that it is passed.
use Rattle.std.proofs.Common.{◌≡◌, ℕ, ◌+◌, ◌<◌, ◌≤◌, Bool, true, pos, List, ◌∷◌, ◌++◌, length, length-append, inl, inr, Some, None, refl, sym, ap, ◌∙◌, subst, arith}
use Rattle.std.specs.Option.{option_map}
use Rattle.lt_isa.specs.declared.symbols.Note.{Note}
use Rattle.lt_isa.specs.declared.instructions.Instr.{Instr}
use Rattle.lt_isa.specs.declared.instructions.Instr.TheVariants.{Jmp, Br}
use Rattle.lt_isa.specs.Prelude.{Parts}
use Rattle.src_tree.specs.Prelude.{Test, DeclaredOnce}
use Rattle.trace_patterns.specs.Prelude.{note_known, note_of_place, claimed_at}
use Rattle.stretches.proofs.Standing.{standing-first, standing-rest, standing-head, standing-tail}
use Rattle.stretches.proofs.Passed.{passes-then, passes-to, LieBetween, no_note-before, no_note-behind, note_at-first, note_at-second, note_at-head, note_at-tail}
use Rattle.block_cache_gen.specs.declared.frames.Mode.TheVariants.{Public}
use Rattle.block_cache_gen.specs.Prelude.{Setting, HasHomes, guard_code, guard_notes}
use Rattle.block_cache_gen.proofs.PublicGuards.{guard-lie}
use Rattle.block_cache_gen.proofs.RangesOfNotes.{base_mask-below, NotesRise, rise-wider, rise-then, guard-rises}
use Rattle.code_gen.specs.Prelude.{opposite, choice_code, head_note}
use Rattle.code_gen.proofs.PassedParts.{ended-at, head_claim, IsOpenAt, IsPassed, IsNoted, rise-lies, closed, closed_by, closed_other, closed_found, closed_rises, end-open, head-carries, stands-as}
use Rattle.code_gen.proofs.PassedBranches.{PassesGuards, guard-longer, branch-on, jump-away}

module _ (f : Setting) (t : Test) (xs : List Instr) (first : ℕ → List Note) (one : Bool) (left : IsNoted f xs first one)
    (i : Instr) (code : List Instr) (second : ℕ
    → List Note) (two : Bool) (right : IsNoted f (i ∷ code) second two) where
  abbrev guard_size : ℕ
  guard_size = length (guard_code f Public 0 t)

  abbrev ys : List Instr
  ys = i ∷ code

  abbrev double : List Instr
  double = choice_code (guard_code f Public 0 t) t.cmp xs ys

  -- the place of the first block, of the jump, of the second block, and of the end
  abbrev body_at : ℕ → ℕ
  body_at p = p + (guard_size + 1)

  abbrev second_at : ℕ → ℕ
  second_at p = p + (guard_size + (1 + (length xs + 1)))

  abbrev head_at : ℕ → ℕ
  head_at p = body_at p + (length xs + 1)

  abbrev end_at : ℕ → ℕ
  end_at p = body_at p + (length xs + (1 + length ys))

  abbrev tail_notes : ℕ → List Note
  tail_notes p = head_note f (head_at p) ∷ closed f (second (second_at p)) two (end_at p)

  abbrev body_notes : ℕ → List Note
  body_notes p = first (body_at p) ++ tail_notes p

  double_size : length double ≡ guard_size + 1 + (length xs + (1 + length ys))
  double_size =
      let jump : List Instr = Jmp (pos (length ys + 1)) ∷ ys in
      let behind : List Instr = xs ++ jump in
      let size : length behind ≡ length xs + (length ys + 1) = length-append xs jump ∙ omega arith in
      omega (arith, length-append (guard_code f Public 0 t) (Br (opposite t.cmp) 0 1 (pos (length xs + 2)) ∷ behind))

  second_rises : (p : ℕ) → NotesRise f (head_at p + 1) (end_at p + 1) (second (second_at p))
  second_rises p =
      rise-wider f (second_at p + 1) (second_at p + length ys + 1) (head_at p + 1) (end_at p + 1) (second (second_at p))
      (omega arith) (omega arith) (right.rises (second_at p))

  tail_rises : (p : ℕ) → NotesRise f (head_at p) (end_at p + 1) (tail_notes p)
  tail_rises p = (
    (omega arith, omega arith),
    (base_mask-below f, refl),
    closed_rises f (second (second_at p)) two (head_at p + 1) (end_at p) (omega arith) (second_rises p)
        (ended-at right (second_at p) (end_at p) (omega arith)),
  )

  body_rises : (p : ℕ) → NotesRise f (body_at p) (end_at p + 1) (body_notes p)
  body_rises p =
      rise-then f (body_at p) (head_at p) (end_at p + 1) (first (body_at p)) (tail_notes p) (omega arith) (omega arith)
      (rise-wider f (body_at p + 1) (body_at p + length xs + 1) (body_at p) (head_at p) (first (body_at p))
      (omega arith)
      (omega arith) (left.rises (body_at p)))
      (tail_rises p)

  guard_lies : (p : ℕ) → LieBetween p (p + guard_size) (guard_notes f 0 p t)
  guard_lies p = guard-lie f 0 p t

  first_lies : (p : ℕ) → LieBetween (body_at p) (head_at p) (first (body_at p))
  first_lies p =
      rise-lies f (body_at p + 1) (body_at p) (head_at p) (first (body_at p)) (omega arith)
      (rise-wider f (body_at p + 1) (body_at p + length xs + 1) (body_at p + 1) (head_at p) (first (body_at p))
      (omega arith) (omega arith) (left.rises (body_at p)))

  tail_lies : (p : ℕ) → LieBetween (body_at p + length xs) (end_at p + 1) (tail_notes p)
  tail_lies p =
      rise-lies f (head_at p) (body_at p + length xs) (end_at p + 1) (tail_notes p) (omega arith) (tail_rises p)

  body_lies : (p : ℕ) → LieBetween (p + guard_size) (end_at p + 1) (body_notes p)
  body_lies p = rise-lies f (body_at p) (p + guard_size) (end_at p + 1) (body_notes p) (omega arith) (body_rises p)

  abbrev all_notes : ℕ → List Note
  all_notes p = guard_notes f 0 p t ++ body_notes p

  -- the note at each place: in the guard, in the first block, at the second block, and after it
  in_guard : (p r : ℕ) → r ≤ p + guard_size → note_of_place (all_notes p) r ≡ note_of_place (guard_notes f 0 p t) r
  in_guard p r le =
      note_at-first (guard_notes f 0 p t) (body_notes p) r
      (no_note-before (p + guard_size) (end_at p + 1) r (body_notes p) (body_lies p) le)

  in_body : (p r : ℕ) → p + guard_size ≤ r → note_of_place (all_notes p) r ≡ note_of_place (body_notes p) r
  in_body p r le =
      note_at-second (guard_notes f 0 p t) (body_notes p) r
      (no_note-behind p (p + guard_size) r (guard_notes f 0 p t) (guard_lies p) le)

  in_first : (p r : ℕ) → p + guard_size ≤ r → r ≤ body_at p + length xs
      → note_of_place (all_notes p) r ≡ note_of_place (first (body_at p)) r
  in_first p r le high =
      in_body p r le
      ∙ note_at-first (first (body_at p)) (tail_notes p) r
      (no_note-before (body_at p + length xs) (end_at p + 1) r (tail_notes p) (tail_lies p) high)

  in_tail : (p r : ℕ) → head_at p ≤ r → note_of_place (all_notes p) r ≡ note_of_place (tail_notes p) r
  in_tail p r le =
      in_body p r (omega arith)
      ∙ note_at-second (first (body_at p)) (tail_notes p) r
      (no_note-behind (body_at p) (head_at p) r (first (body_at p)) (first_lies p) le)

  at_head : (p : ℕ) → note_of_place (all_notes p) (head_at p) ≡ Some (head_note f (head_at p))
  at_head p =
      in_tail p (head_at p) (omega arith)
      ∙ note_at-head (head_note f (head_at p)) (closed f (second (second_at p)) two (end_at p)) (head_at p) refl

  in_second : (p r : ℕ) → head_at p < r
      → note_of_place (all_notes p) r ≡ note_of_place (closed f (second (second_at p)) two (end_at p)) r
  in_second p r lt =
      in_tail p r (omega arith)
      ∙ note_at-tail (head_note f (head_at p)) (closed f (second (second_at p)) two (end_at p)) r
      (λ e. absurd (omega arith))

  at_end : (p : ℕ) → note_of_place (all_notes p) (end_at p) ≡ Some (head_note f (end_at p))
  at_end p =
      in_second p (end_at p) (omega arith) ∙ closed_by f (second (second_at p)) two (end_at p)
      (ended-at right (second_at p) (end_at p) (omega arith))

  -- the notes of a choice of two blocks are within its code
  pub double-noted : IsNoted f double all_notes true
  double-noted = record {
    rises = λ p.
        let size = double_size in
        rise-then f (p + 1) (body_at p) (p + length double + 1) (guard_notes f 0 p t) (body_notes p) (omega arith)
        (omega arith)
        (rise-wider f (p + 1) (p + guard_size) (p + 1) (body_at p) (guard_notes f 0 p t) (omega arith) (omega arith)
        (guard-rises f 0 p t))
        (rise-wider f (body_at p) (end_at p + 1) (body_at p) (p + length double + 1) (body_notes p) (omega arith)
        (omega arith) (body_rises p));
    ended = λ p.
        let size = double_size in
        let same : end_at p ≡ p + length double = omega arith in
        subst (λ (q : ℕ). note_of_place (all_notes p) q ≡ Some (head_note f q)) same (at_end p);
  }

  -- a choice of two blocks is passed
  pub double-passed : (o : Parts) → HasHomes o f → DeclaredOnce f.decls → PassesGuards o f t → IsPassed o f xs first
      → IsPassed o f ys second → IsPassed o f double all_notes
  double-passed o homes once guards before behind p k stands notes inside open_here carries =
      let size = double_size in
      let guard = guard_code f Public 0 t in
      let branch = Br (opposite t.cmp) 0 1 (pos (length xs + 2)) in
      let jump = Jmp (pos (length ys + 1)) in
      let pb = p + guard_size in
      let a = body_at p in
      let j = a + length xs in
      let h = head_at p in
      let b = second_at p in
      let q = end_at p in
      let same : q ≡ p + length double = omega arith in
      let some = guard-longer f t in
      let at_inner : (r : ℕ) → p < r → r < q → claimed_at o r ≡ option_map note_known (note_of_place (all_notes p) r) =
      (λ r after under. notes.inner r after (omega arith)) in
      let g = guards p k (standing-first guard (branch ∷ (xs ++ jump ∷ ys)) stands)
      (λ r after under. at_inner r after (omega arith) ∙ ap (option_map note_known) (in_guard p r (omega arith)))
      (omega arith) open_here carries in
      let none : claimed_at o pb ≡ None = at_inner pb (omega arith) (omega arith)
      ∙ ap (option_map note_known) (in_guard p pb (omega arith)
      ∙ no_note-behind p pb pb (guard_notes f 0 p t) (guard_lies p) (omega arith)) in
      let noted_second : claimed_at o h ≡ Some (head_claim f) = at_inner h (omega arith) (omega arith)
      ∙ ap (option_map note_known) (at_head p) in
      let noted_end : claimed_at o q ≡ Some (head_claim f) = subst (λ (x : ℕ). claimed_at o x ≡ Some (head_claim f))
      (sym same)
      (notes.outer (head_note f q) (subst (λ (x : ℕ). note_of_place (all_notes p) x ≡ Some (head_note f q)) same
      (at_end p))) in
      let rest = standing-rest guard (branch ∷ (xs ++ jump ∷ ys)) stands in
      let on = branch-on o f homes once pb h g.last (opposite t.cmp) (pos (length xs + 2)) g.carries g.left g.right none
      (standing-head branch (xs ++ jump ∷ ys) rest) (omega arith) (omega arith) (omega arith) noted_second in
      let start : pb + 1 ≡ a = omega arith in
      let body = stands-as o (pb + 1) a (xs ++ jump ∷ ys) start (standing-tail branch (xs ++ jump ∷ ys) rest) in
      let open_body : IsOpenAt o f a = inl (at_inner a (omega arith) (omega arith)
      ∙ ap (option_map note_known) (in_first p a (omega arith) (omega arith)
      ∙ no_note-before a h a (first a) (first_lies p) (omega arith))) in
      let there : claimed_at o j ≡ option_map note_known (note_of_place (first a) j) = at_inner j (omega arith)
      (omega arith)
      ∙ ap (option_map note_known) (in_first p j (omega arith) (omega arith)) in
      let l = before a g.last (standing-first xs (jump ∷ ys) body)
      (record {
        inner = λ r after under. at_inner r (omega arith) (omega arith)
            ∙ ap (option_map note_known) (in_first p r (omega arith) (omega arith));
        outer = λ n found. there ∙ ap (option_map note_known) found;
      }) (omega arith) open_body g.carries in
      let turn = standing-rest xs (jump ∷ ys) body in
      let next : j + 1 ≡ h = omega arith in
      let away = jump-away o f homes once j q l.last (pos (length ys + 1)) l.carries
      (end-open o f one j (there ∙ ap (option_map note_known) (left.ended a))) (standing-head jump ys turn)
      (omega arith) (omega arith) noted_end (subst (λ (x : ℕ). claimed_at o x ≡ Some (head_claim f))
      (sym next) noted_second) in
      let there_b : j + 1 ≡ b = omega arith in
      let last_b : b + length ys ≡ q = omega arith in
      let r = behind b (head_claim f) (stands-as o (j + 1) b ys there_b (standing-tail jump ys turn))
      (record {
        inner = λ r after under. at_inner r (omega arith) (omega arith)
            ∙ ap (option_map note_known) (in_second p r (omega arith)
            ∙ closed_other f (second b) two q r (λ e. absurd (omega arith)));
        outer = λ n found. subst (λ (x : ℕ). claimed_at o x ≡ Some (note_known n)) (sym (last_b ∙ same))
            (notes.outer n (subst (λ (x : ℕ). note_of_place (all_notes p) x ≡ Some n) same
            (in_second p q (omega arith)
            ∙ closed_found f (second b) two q q n
            (subst (λ (x : ℕ). note_of_place (second b) x ≡ Some n) last_b found))));
      }) (omega arith)
      (let there_h : h ≡ b = omega arith in
      let open_b : IsOpenAt o f b = inr (subst (λ (x : ℕ). claimed_at o x ≡ Some
      (head_claim f)) there_h noted_second) in open_b)
      (head-carries o f homes once) in
      record {
        last = r.last;
        passes
            = passes-to o p k q (p + length double) r.last same
            (passes-then o p k pb g.last g.passes q r.last
            (passes-then o pb g.last a g.last (passes-to o pb g.last (pb + 1) a g.last start on) q r.last
            (passes-then o a g.last j l.last l.passes q r.last
            (passes-then o j l.last b (head_claim f) (passes-to o j l.last (j + 1) b
            (head_claim f) there_b away) q r.last
            (passes-to o b (head_claim f) (b + length ys) q r.last last_b r.passes)))));
        carries = r.carries;
      }
