-- The public code of a loop, made of that of its parts: where its notes are, and that it is passed.
use Rattle.std.proofs.Common.{◌≡◌, ℕ, ◌+◌, ◌-◌, ◌<◌, ◌≤◌, Bool, false, pos, negsuc, List, [], ◌∷◌, ◌++◌, length, length-append, inr, Option, Some, None, refl, sym, ap, ◌∙◌, subst, ⊎_elim, arith, append_assoc}
use Rattle.std.specs.Prelude.{if◌then◌else◌}
use Rattle.std.specs.Option.{option_map}
use Rattle.std.proofs.lemmas.Bool.{cases_lt, lt-ltb}
use Rattle.lt_isa.specs.declared.symbols.Note.{Note}
use Rattle.lt_isa.specs.declared.instructions.Instr.{Instr}
use Rattle.lt_isa.specs.declared.instructions.Instr.TheVariants.{Jmp, Br}
use Rattle.lt_isa.specs.Prelude.{Parts, target_of}
use Rattle.src_tree.specs.Prelude.{Test, DeclaredOnce}
use Rattle.trace_patterns.specs.Prelude.{note_known, note_of_place, claimed_at}
use Rattle.stretches.proofs.Standing.{standing-first, standing-rest, standing-head, standing-tail}
use Rattle.stretches.proofs.Passed.{passes-then, passes-to, LieBetween, no_note-before, no_note-behind, note_at-first, note_at-second, note_at-found, note_at-head, note_at-tail}
use Rattle.block_cache_gen.specs.declared.frames.Mode.TheVariants.{Public}
use Rattle.scalar_ranges.specs.Prelude.{Ranges}
use Rattle.block_cache_gen.specs.Prelude.{Setting, HasHomes, ranged, guard_code, guard_notes, Carries}
use Rattle.block_cache_gen.proofs.Ranged.{carries-ranged}
use Rattle.block_cache_gen.proofs.PublicGuards.{guard-lie}
use Rattle.block_cache_gen.proofs.RangesOfNotes.{base_mask-below, NotesRise, rise-wider, rise-then, guard-rises}
use Rattle.code_gen.specs.Prelude.{loop_code, guard_note, head_note}
use Rattle.code_gen.proofs.PassedParts.{ended-at, head_claim, IsOpenAt, IsPassed, IsNoted, rise-lies, closed_by, closed_other, closed_rises, head-carries, stands-as}
use Rattle.code_gen.proofs.RangedParts.{rise-ranged}
use Rattle.code_gen.proofs.PassedBranches.{PassesGuards, guard-longer, branch-on, jump-away}

-- the notes at a loop's guard, after those of its body
closing_rises : (f : Setting) (zs : List Instr) (notes : List Note) (one : Bool) (low q : ℕ) → low ≤ q + 1
    → (1 ≤ length zs → low ≤ q) → NotesRise f low (q + 1) notes
    → note_of_place notes q ≡ (if one then Some (head_note f q) else None)
    → NotesRise f low (q + 1) (notes ++ guard_note f zs one q)
closing_rises f [] notes one low q le some rise ended =
    rise-then f low (q + 1) (q + 1) notes [] le (omega arith) rise tt
closing_rises f (i ∷ code) notes one low q le some rise ended =
    closed_rises f notes one low q (some (omega arith)) rise ended

closing_other : (f : Setting) (zs : List Instr) (notes : List Note) (one : Bool) (q r : ℕ) → (q ≡ r → ⊥)
    → note_of_place (notes ++ guard_note f zs one q) r ≡ note_of_place notes r
closing_other f [] notes one q r apart = note_at-first notes [] r refl
closing_other f (i ∷ code) notes one q r apart = closed_other f notes one q r apart

closing_at : (f : Setting) (zs : List Instr) (notes : List Note) (one : Bool) (q : ℕ) → 1 ≤ length zs
    → note_of_place notes q ≡ (if one then Some (head_note f q) else None)
    → note_of_place (notes ++ guard_note f zs one q) q ≡ Some (head_note f q)
closing_at f [] notes one q some ended = absurd (omega arith)
closing_at f (i ∷ code) notes one q some ended = closed_by f notes one q ended

-- The guard is made for what is known there.
module _ (f : Setting) (ranges : Ranges) (t : Test) (xs : List Instr) (first : ℕ → List Note) (one : Bool)
    (left : IsNoted f xs first one) where
  abbrev guarded : Setting
  guarded = ranged f ranges

  abbrev guard_size : ℕ
  guard_size = length (guard_code guarded Public 0 t)

  abbrev loop : List Instr
  loop = loop_code (guard_code guarded Public 0 t) t.cmp xs

  -- the place of the body, of the guard, and of the branch
  abbrev body_at : ℕ → ℕ
  body_at p = p + 1

  abbrev guard_at : ℕ → ℕ
  guard_at p = p + (1 + length xs)

  abbrev branch_at : ℕ → ℕ
  branch_at p = guard_at p + guard_size

  abbrev closing : ℕ → List Note
  closing p = first (body_at p) ++ guard_note f xs one (guard_at p)

  abbrev behind_head : ℕ → List Note
  behind_head p = first (body_at p) ++ (guard_note f xs one (guard_at p) ++ guard_notes guarded 0 (guard_at p) t)

  abbrev all_notes : ℕ → List Note
  all_notes p = head_note f (body_at p) ∷ behind_head p

  loop_size : length loop ≡ 1 + (length xs + (guard_size + 1))
  loop_size =
      let branch : List Instr = Br t.cmp 0 1 (negsuc ((length xs + guard_size) - 1)) ∷ [] in
      let guard = guard_code guarded Public 0 t in
      omega (arith, length-append xs (guard ++ branch), length-append guard branch)

  regrouped : (p : ℕ) → behind_head p ≡ closing p ++ guard_notes guarded 0 (guard_at p) t
  regrouped p = sym (append_assoc (first (body_at p)) (guard_note f xs one (guard_at p)) (guard_notes guarded 0
      (guard_at p) t))

  closing_rise : (p : ℕ) → NotesRise f (body_at p + 1) (guard_at p + 1) (closing p)
  closing_rise p =
      closing_rises f xs (first (body_at p)) one (body_at p + 1) (guard_at p) (omega arith) (λ some. omega arith)
      (rise-wider f (body_at p + 1) (body_at p + length xs + 1) (body_at p + 1) (guard_at p + 1) (first (body_at p))
      (omega arith) (omega arith) (left.rises (body_at p)))
      (ended-at left (body_at p) (guard_at p) (omega arith))

  closing_lies : (p : ℕ) → LieBetween (body_at p) (guard_at p + 1) (closing p)
  closing_lies p =
      rise-lies f (body_at p + 1) (body_at p) (guard_at p + 1) (closing p) (omega arith) (closing_rise p)

  guard_lies : (p : ℕ) → LieBetween (guard_at p) (branch_at p) (guard_notes guarded 0 (guard_at p) t)
  guard_lies p = guard-lie guarded 0 (guard_at p) t

  -- the note at each place: at the body, in it, and in the guard
  at_body : (p : ℕ) → note_of_place (all_notes p) (body_at p) ≡ Some (head_note f (body_at p))
  at_body p = note_at-head (head_note f (body_at p)) (behind_head p) (body_at p) refl

  behind_body : (p r : ℕ) → body_at p < r
      → note_of_place (all_notes p) r ≡ note_of_place (closing p ++ guard_notes guarded 0 (guard_at p) t) r
  behind_body p r lt =
      note_at-tail (head_note f (body_at p)) (behind_head p) r (λ e. absurd (omega arith))
      ∙ ap (λ (ns : List Note). note_of_place ns r) (regrouped p)

  in_closing : (p r : ℕ) → body_at p < r → r ≤ guard_at p → note_of_place (all_notes p) r
      ≡ note_of_place (closing p) r
  in_closing p r lt le =
      behind_body p r lt
      ∙ note_at-first (closing p) (guard_notes guarded 0 (guard_at p) t) r
      (no_note-before (guard_at p) (branch_at p) r (guard_notes guarded 0 (guard_at p) t) (guard_lies p) le)

  in_guard : (p r : ℕ) → guard_at p < r → note_of_place (all_notes p) r
      ≡ note_of_place (guard_notes guarded 0 (guard_at p) t) r
  in_guard p r lt =
      behind_body p r (omega arith)
      ∙ note_at-second (closing p) (guard_notes guarded 0 (guard_at p) t) r
      (no_note-behind (body_at p) (guard_at p + 1) r (closing p) (closing_lies p) (omega arith))

  at_guard : (p : ℕ) → note_of_place (all_notes p) (guard_at p) ≡ Some (head_note f (guard_at p))
  at_guard p =
      ⊎_elim
      (λ (some : 0 < length xs). in_closing p (guard_at p) (omega arith) (omega arith)
      ∙ closing_at f xs (first (body_at p)) one (guard_at p) (omega arith)
      (ended-at left (body_at p) (guard_at p) (omega arith)))
      (λ (none : length xs ≤ 0).
      let same : body_at p ≡ guard_at p = omega arith in
      subst (λ (q : ℕ). note_of_place (all_notes p) q ≡ Some (head_note f q)) same (at_body p))
      (cases_lt 0 (length xs))

  -- the notes of a loop are within its code
  pub loop-noted : IsNoted f loop all_notes false
  loop-noted = record {
    rises = λ p.
        let size = loop_size in
        let behind : NotesRise f (body_at p + 1) (p + length loop + 1) (closing p ++ guard_notes guarded 0 (guard_at p) t) =
        rise-then f (body_at p + 1) (guard_at p + 1) (p + length loop + 1) (closing p) (guard_notes guarded 0
        (guard_at p) t)
        (omega arith) (omega arith) (closing_rise p)
        (rise-wider f (guard_at p + 1) (branch_at p) (guard_at p + 1) (p + length loop + 1)
        (guard_notes guarded 0 (guard_at p) t) (omega arith) (omega arith)
        (rise-ranged f ranges (guard_at p + 1) (branch_at p) (guard_notes guarded 0 (guard_at p) t)
        (guard-rises guarded 0 (guard_at p) t))) in (
          (omega arith, omega arith),
          (base_mask-below f, refl),
          subst (NotesRise f (body_at p + 1) (p + length loop + 1)) (sym (regrouped p)) behind,
        );
    ended = λ p.
        let size = loop_size in
        in_guard p (p + length loop) (omega arith)
        ∙ no_note-behind (guard_at p) (branch_at p) (p + length loop) (guard_notes guarded 0 (guard_at p) t) (guard_lies p)
        (omega arith);
  }

  -- a loop is passed
  pub loop-passed : (o : Parts) → HasHomes o f → DeclaredOnce f.decls → PassesGuards o guarded t → IsPassed o f xs first
      → IsPassed o f loop all_notes
  loop-passed o homes once guards body p k stands notes inside open_here carries =
      let size = loop_size in
      let some = guard-longer guarded t in
      let guard = guard_code guarded Public 0 t in
      let offset = negsuc ((length xs + guard_size) - 1) in
      let branch = Br t.cmp 0 1 offset in
      let jump = Jmp (pos (length xs + 1)) in
      let a = body_at p in
      let g0 = guard_at p in
      let br = branch_at p in
      let q = br + 1 in
      let same : q ≡ p + length loop = omega arith in
      let at_inner : (r : ℕ) → p < r → r < q → claimed_at o r
      ≡ option_map note_known (note_of_place (all_notes p) r) =
      (λ r after under. notes.inner r after (omega arith)) in
      let noted_body : claimed_at o a ≡ Some (head_claim f) = at_inner a (omega arith) (omega arith)
      ∙ ap (option_map note_known) (at_body p) in
      let noted_guard : claimed_at o g0 ≡ Some (head_claim f) = at_inner g0 (omega arith) (omega arith)
      ∙ ap (option_map note_known) (at_guard p) in
      let away = jump-away o f homes once p g0 k (pos (length xs + 1)) carries open_here
      (standing-head jump (xs ++ (guard ++ branch ∷ [])) stands) (omega arith) (omega arith) noted_guard noted_body in
      let rest = standing-tail jump (xs ++ (guard ++ branch ∷ [])) stands in
      let last_a : a + length xs ≡ g0 = omega arith in
      let open_a : IsOpenAt o f a = inr noted_body in
      let l = body a (head_claim f) (standing-first xs (guard ++ branch ∷ []) rest)
      (record {
        inner = λ r after under. at_inner r (omega arith) (omega arith)
            ∙ ap (option_map note_known) (in_closing p r after (omega arith)
            ∙ closing_other f xs (first a) one g0 r (λ e. absurd (omega arith)));
        outer = λ n found.
            let found' : note_of_place (first a) g0 ≡ Some n = subst (λ (x : ℕ). note_of_place
            (first a) x ≡ Some n) last_a found in
            subst (λ (x : ℕ). claimed_at o x ≡ Some (note_known n)) (sym last_a)
            (⊎_elim
            (λ (more : 0 < length xs). at_inner g0 (omega arith) (omega arith)
            ∙ ap (option_map note_known) (in_closing p g0 (omega arith) (omega arith)
            ∙ note_at-found (first a) (guard_note f xs one g0) g0 n found'))
            (λ (none : length xs ≤ 0).
            let lie : LieBetween a (a + length xs + 1) (first a) = rise-lies f (a + 1) a (a + length xs + 1) (first a)
            (omega arith) (left.rises a) in
            absurd (let e : ◌≡◌ {A = Option Note} None (Some n) = sym
            (no_note-before a (a + length xs + 1) g0 (first a) lie (omega arith)) ∙ found' in cc))
            (cases_lt 0 (length xs)));
      }) (omega arith) open_a (head-carries o f homes once) in
      let turn = stands-as o (a + length xs) g0 (guard ++ branch ∷ []) last_a
      (standing-rest xs (guard ++ branch ∷ []) rest) in
      let open_g : IsOpenAt o f g0 = inr noted_guard in
      let tested = guards g0 l.last (standing-first guard (branch ∷ []) turn)
      (λ r after under. at_inner r (omega arith) (omega arith) ∙ ap (option_map note_known) (in_guard p r after))
      (omega arith) open_g (carries-ranged f ranges l.last l.carries) in
      let carries_on : Carries f tested.last = carries-ranged guarded f.ranges tested.last tested.carries in
      let none : claimed_at o br ≡ None = at_inner br (omega arith) (omega arith)
      ∙ ap (option_map note_known) (in_guard p br (omega arith)
      ∙ no_note-behind g0 br br (guard_notes guarded 0 g0 t) (guard_lies p) (omega arith)) in
      let back : target_of o br offset ≡ a =
      ap (λ (b : Bool). if b then br - ((length xs + guard_size) - 1 + 1) else length o.code)
      (lt-ltb ((length xs + guard_size) - 1) br (omega arith)) ∙ omega arith in
      let on = branch-on o f homes once br a tested.last t.cmp offset carries_on tested.left tested.right none
      (standing-head branch [] (standing-rest guard (branch ∷ []) turn)) back (omega arith)
      (omega arith) noted_body in
      record {
        last = tested.last;
        passes
            = passes-to o p k q (p + length loop) tested.last same
            (passes-then o p k a (head_claim f) away q tested.last
            (passes-then o a (head_claim f) g0 l.last
            (passes-to o a (head_claim f) (a + length xs) g0 l.last last_a l.passes) q tested.last
            (passes-then o g0 l.last br tested.last tested.passes q tested.last on)));
        carries = carries_on;
      }
