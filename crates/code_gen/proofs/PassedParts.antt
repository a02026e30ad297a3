-- Parts of public code, with their notes: where the notes are, that each part is passed, and that its notes rise.
use Rattle.std.proofs.Common.{◌≡◌, ℕ, ◌+◌, ◌<◌, ◌≤◌, ◌==◌, Bool, true, false, List, [], ◌∷◌, ◌++◌, length, length-append, ◌⊎◌, inl, inr, Option, Some, None, refl, sym, ap, ◌∙◌, subst, arith}
use Rattle.std.specs.Prelude.{if◌then◌else◌}
use Rattle.std.specs.Option.{option_map}
use Rattle.std.proofs.lemmas.Bool.{eqb-false}
use Rattle.lt_isa.specs.declared.symbols.Note.{Note}
use Rattle.lt_isa.specs.declared.instructions.Instr.{Instr}
use Rattle.lt_isa.specs.Prelude.{Parts}
use Rattle.src_tree.specs.Prelude.{DeclaredOnce}
use Rattle.trace_patterns.specs.Prelude.{Known, note_known, FitsClaim, note_of_place, claimed_at}
use Rattle.stretches.specs.Prelude.{StandsAt, HoldsAt, AsItComes, AsClaimed, Passes, Done, NotesBetween}
use Rattle.stretches.proofs.Standing.{standing-first, standing-rest}
use Rattle.stretches.proofs.Passed.{passes-then, passes-to, LieBetween, no_note-before, no_note-behind, note_at-first, note_at-second, note_at-found, note_at-head, note_at-tail}
use Rattle.block_cache_gen.specs.Prelude.{Setting, HasHomes, base_mask, note_of, Carries}
use Rattle.block_cache_gen.proofs.NoteClaims.{leaves-base, note-fits, note-carries}
use Rattle.block_cache_gen.proofs.RangesOfNotes.{base_mask-below, NotesRise, rise-wider, rise-then}
use Rattle.code_gen.specs.Prelude.{head_note, head_unless}

-- what a note to which public code may jump claims
abbrev pub head_claim : Setting → Known
head_claim f = note_known (note_of f (base_mask f) 0)

-- at a place there is no note, or one to which public code may jump
abbrev pub IsOpenAt : Parts → Setting → ℕ → Type 0
IsOpenAt o f p = (claimed_at o p ≡ None) ⊎ (claimed_at o p ≡ Some (head_claim f))

-- The notes after a place and up to another are these, and there is no other note before the second place.
pub record NotesUpTo (o : Parts) (p q : ℕ) (notes : List Note) : Type 0 where
  pub inner : NotesBetween o p q notes
  pub outer : (n : Note) → note_of_place notes q ≡ Some n → claimed_at o q ≡ Some (note_known n)

-- from the state on entry to a place where a setting is carried, to that of another, where it is carried too
pub record Carried (o : Parts) (f : Setting) (p : ℕ) (k : Known) (q : ℕ) : Type 0 where
  pub last : Known
  pub passes : Passes o p k q last
  pub carries : Carries f last

-- A part of public code is passed at any place.
abbrev pub IsPassed : Parts → Setting → List Instr → (ℕ → List Note) → Type 0
IsPassed o f code notes =
    (p : ℕ) (k : Known) → StandsAt o p code → NotesUpTo o p (p + length code) (notes p)
    → p + length code < length o.code
    → IsOpenAt o f p → Carries f k → Carried o f p k (p + length code)

-- Its notes rise, from the place after its first instruction to the place after its last, which has a note if the part
-- ends noted.
pub record IsNoted (f : Setting) (code : List Instr) (notes : ℕ → List Note) (ends : Bool) : Type 0 where
  pub rises : (p : ℕ) → NotesRise f (p + 1) (p + length code + 1) (notes p)
  pub ended : (p : ℕ)
      → note_of_place (notes p) (p + length code) ≡ (if ends then Some (head_note f (p + length code)) else None)

-- the note after the last instruction, at a place that is known otherwise
pub ended-at : {f : Setting} {code : List Instr} {notes : ℕ → List Note} {ends : Bool} → IsNoted f code notes ends
    → (p q : ℕ) → p + length code ≡ q
    → note_of_place (notes p) q ≡ (if ends then Some (head_note f q) else None)
ended-at {f = f} {notes = notes} {ends = ends} noted p q same =
    subst (λ (r : ℕ). note_of_place (notes p) r ≡ (if ends then Some (head_note f r) else None)) same (noted.ended p)

-- notes that rise are between their bounds
pub rise-lies : (f : Setting) (low p q : ℕ) (notes : List Note) → p < low → NotesRise f low q notes
    → LieBetween p q notes
rise-lies f low p q [] lt rise = tt
rise-lies f low p q (n ∷ notes) lt rise =
    let at = rise.0 in
    ((omega (arith, at.0), at.1), rise-lies f (n.pc + 1) p q notes (omega (arith, at.0)) rise.2)

-- notes of which none is at the last place end before it
pub rise-short : (f : Setting) (low high : ℕ) (notes : List Note) → NotesRise f low (high + 1) notes
    → note_of_place notes high ≡ None → NotesRise f low high notes
rise-short f low high [] rise none = tt
rise-short f low high (n ∷ notes) rise none = by (n.pc == high) refl (rise-short f (n.pc + 1) high notes rise.2)
  where
    by : (b : Bool) → (n.pc == high) ≡ b → (note_of_place notes high ≡ None → NotesRise f (n.pc + 1) high notes)
        → NotesRise f low high (n ∷ notes)
    by true is behind =
        let found : note_of_place (n ∷ notes) high ≡ Some n = ap (λ
        (b : Bool). if b then Some n else note_of_place notes high) is in
        absurd (let e : ◌≡◌ {A = Option Note} None (Some n) = sym none ∙ found in cc)
    by false is behind =
        let at = rise.0 in
        let other : note_of_place (n ∷ notes) high ≡ note_of_place notes high =
        ap (λ (b : Bool). if b then Some n else note_of_place notes high) is in
        ((at.0, omega (arith, at.1, eqb-false n.pc high is)), rise.1, behind (sym other ∙ none))

-- a part's notes, closed by one at its end
abbrev pub closed : Setting → List Note → Bool → ℕ → List Note
closed f notes ends q = notes ++ head_unless ends f q

-- code is at a place, in each form of saying so
pub stands-as : (o : Parts) (p q : ℕ) (code : List Instr) → p ≡ q → StandsAt o p code → StandsAt o q code
stands-as o p q code same stands = subst (λ (x : ℕ). StandsAt o x code) same stands

-- a closed part has a note to which public code may jump at its end, and else the part's own
pub closed_by : (f : Setting) (notes : List Note) (ends : Bool) (q : ℕ)
    → note_of_place notes q ≡ (if ends then Some (head_note f q) else None)
    → note_of_place (closed f notes ends q) q ≡ Some (head_note f q)
closed_by f notes true q ended = note_at-found notes [] q (head_note f q) ended
closed_by f notes false q ended =
    note_at-second notes (head_note f q ∷ []) q ended ∙ note_at-head (head_note f q) [] q refl

-- a note at the end isn't one of another place
pub closed_other : (f : Setting) (notes : List Note) (ends : Bool) (q r : ℕ) → (q ≡ r → ⊥)
    → note_of_place (closed f notes ends q) r ≡ note_of_place notes r
closed_other f notes true q r apart = note_at-first notes [] r refl
closed_other f notes false q r apart =
    note_at-first notes (head_note f q ∷ []) r (note_at-tail (head_note f q) [] r apart)

-- an existing note stays
pub closed_found : (f : Setting) (notes : List Note) (ends : Bool) (q r : ℕ) (n : Note) → note_of_place notes r ≡ Some n
    → note_of_place (closed f notes ends q) r ≡ Some n
closed_found f notes ends q r n found = note_at-found notes (head_unless ends f q) r n found

-- and its notes rise
pub closed_rises : (f : Setting) (notes : List Note) (ends : Bool) (low q : ℕ) → low ≤ q → NotesRise f low (q + 1) notes
    → note_of_place notes q ≡ (if ends then Some (head_note f q) else None)
    → NotesRise f low (q + 1) (closed f notes ends q)
closed_rises f notes true low q le rise ended =
    rise-then f low (q + 1) (q + 1) notes [] (omega arith) (omega arith) rise tt
closed_rises f notes false low q le rise ended =
    rise-then f low q (q + 1) notes (head_note f q ∷ []) le (omega arith) (rise-short f low q notes rise ended)
    ((omega arith, omega arith), (base_mask-below f, refl), tt)

-- the note at a part's end, if nothing else is there
pub end-open : (o : Parts) (f : Setting) (ends : Bool) (q : ℕ)
    → claimed_at o q ≡ option_map note_known (if ends then Some (head_note f q) else None) → IsOpenAt o f q
end-open o f true q is = inr is
end-open o f false q is = inl is

-- what holds at an open place carries the setting
pub record HeldOpen (o : Parts) (f : Setting) (p : ℕ) (k : Known) : Type 0 where
  pub held : Known
  pub here : HoldsAt o p k held
  pub carries : Carries f held

module _ (o : Parts) (f : Setting) (homes : HasHomes o f) (once : DeclaredOnce f.decls) where
  -- what the setting relies on fits the claim of a head
  pub fits-head : (k : Known) → Carries f k → FitsClaim k (head_claim f)
  fits-head k carries = note-fits o f homes once (base_mask f) 0 0 k carries (leaves-base f 0 k)

  -- and that claim has what the setting relies on
  pub head-carries : Carries f (head_claim f)
  head-carries = note-carries o f homes once (base_mask f) 0 (λ r high low. refl)

  -- what holds at a place where public code may come in
  pub held-open : (p : ℕ) (k : Known) → IsOpenAt o f p → Carries f k → HeldOpen o f p k
  held-open p k (inl none) carries = record { held = k; here = AsItComes k none; carries = carries }
  held-open p k (inr noted) carries =
      record {
        held = head_claim f;
        here = AsClaimed k (head_claim f) noted
            (fits-head k carries);
        carries = head-carries;
      }

-- no code
pub none-noted : (f : Setting) → IsNoted f [] (λ p. []) false
none-noted f = record { rises = λ p. tt; ended = λ p. refl }

-- no code is passed
pub none-passed : (o : Parts) (f : Setting) → IsPassed o f [] (λ p. [])
none-passed o f p k stands notes inside open_here carries =
    let same : p ≡ p + 0 = omega arith in
    record { last = k; passes = passes-to o p k p (p + 0) k same (Done p k); carries = carries }

-- a single part, and one part after another
module _ (f : Setting) (xs ys : List Instr) (first second : ℕ → List Note) (one other : Bool)
    (left : IsNoted f xs first one) (right : IsNoted f ys second other) where
  size_of : length (xs ++ ys) ≡ length xs + length ys
  size_of = length-append xs ys

  left_lies : (p : ℕ) → LieBetween p (p + length xs + 1) (first p)
  left_lies p = rise-lies f (p + 1) p (p + length xs + 1) (first p) (omega arith) (left.rises p)

  right_lies : (p : ℕ) → LieBetween (p + length xs) (p + length (xs ++ ys) + 1) (second (p + length xs))
  right_lies p =
      let size = size_of in
      let same : p + length xs + length ys + 1 ≡ p + length (xs ++ ys) + 1 = omega arith in
      subst (λ (q : ℕ). LieBetween (p + length xs) q (second (p + length xs))) same
      (rise-lies f (p + length xs + 1) (p + length xs) (p + length xs + length ys + 1) (second (p + length xs))
      (omega arith) (right.rises (p + length xs)))

  -- the notes of two parts are within both
  pub both-noted : 1 ≤ length ys → IsNoted f (xs ++ ys) (λ p. first p ++ second (p + length xs)) other
  both-noted some = record {
    rises = λ p.
        let size = size_of in
        rise-then f (p + 1) (p + length xs + 1) (p + length (xs ++ ys) + 1) (first p) (second (p + length xs))
        (omega arith)
        (omega arith) (left.rises p)
        (rise-wider f (p + length xs + 1) (p + length xs + length ys + 1) (p + length xs + 1)
        (p + length (xs ++ ys) + 1) (second (p + length xs)) (omega arith) (omega arith) (right.rises (p + length xs)));
    ended = λ p.
        let size = size_of in
        let same : p + length xs + length ys ≡ p + length (xs ++ ys) = omega arith in
        note_at-second (first p) (second (p + length xs)) (p + length (xs ++ ys))
        (no_note-behind p (p + length xs + 1) (p + length (xs ++ ys)) (first p) (left_lies p) (omega arith))
        ∙ subst (λ (q : ℕ). note_of_place (second (p + length xs)) q ≡ (if other then Some (head_note f q) else None))
        same
        (right.ended (p + length xs));
  }

  -- one piece is passed and then the other
  pub both-passed : (o : Parts) → 1 ≤ length xs → 1 ≤ length ys → IsPassed o f xs first → IsPassed o f ys second
      → IsPassed o f (xs ++ ys) (λ p. first p ++ second (p + length xs))
  both-passed o some more before behind p k stands notes inside open_here carries =
      let size = size_of in
      let mid = p + length xs in
      let whole = p + length (xs ++ ys) in
      let same : mid + length ys ≡ whole = omega arith in
      let lie_left = left_lies p in
      let lie_right = right_lies p in
      let low : (r : ℕ) → r ≤ mid → note_of_place (first p ++ second mid) r ≡ note_of_place (first p) r = (λ r le.
      note_at-first (first p) (second mid) r (no_note-before mid (whole + 1) r (second mid) lie_right le)) in
      let high : (r : ℕ) → mid < r → note_of_place (first p ++ second mid) r ≡ note_of_place (second mid) r = (λ r lt.
      note_at-second (first p) (second mid) r (no_note-behind p (mid + 1) r (first p) lie_left (omega arith))) in
      let there : claimed_at o mid ≡ option_map note_known (note_of_place (first p) mid) = notes.inner mid (omega arith)
      (omega arith)
      ∙ ap (option_map note_known) (low mid (omega arith)) in
      let a = before p k (standing-first xs ys stands)
      (record {
        inner = λ r after under. notes.inner r after (omega arith) ∙ ap (option_map note_known) (low r (omega arith));
        outer = λ n found. there ∙ ap (option_map note_known) found;
      }) (omega arith) open_here carries in
      let b = behind mid a.last (standing-rest xs ys stands)
      (record {
        inner = λ r after under. notes.inner r (omega arith) (omega arith) ∙ ap (option_map note_known) (high r after);
        outer = λ n found. subst (λ (q : ℕ). claimed_at o q ≡ Some (note_known n)) (sym same)
            (notes.outer n (high whole (omega arith)
            ∙ subst (λ (q : ℕ). note_of_place (second mid) q ≡ Some n) same found));
      }) (omega arith)
      (end-open o f one mid (there ∙ ap (option_map note_known) (left.ended p))) a.carries in
      record {
        last = b.last;
        passes
            = passes-then o p k mid a.last a.passes whole b.last
            (passes-to o mid a.last (mid + length ys) whole b.last same b.passes);
        carries = b.carries;
      }
