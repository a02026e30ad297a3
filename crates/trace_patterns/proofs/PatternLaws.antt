-- Laws of patterns.
use Rattle.std.proofs.Common.{◌≡◌, ℕ, ◌+◌, ◌<◌, List, [], ◌∷◌, ◌++◌, length, get_or, set, refl, sym, ap, ◌∙◌, arith, add_comm, add_assoc, append_assoc, zero-add, length-append}
use Rattle.std.proofs.Math.Seq.{get_or-append_seam, set-append_seam}
use Rattle.trace_patterns.specs.Prelude.{Shown, with_gap, with_event, joined, joined_parts, no_events}

-- appending parts and then adding the pattern's last gap to the first of them joins the two patterns
pub joined-by_widening : {E : Type 0} (ps qs all : List (ℕ × E)) (start last other : ℕ) (x : ℕ × E) → all ≡ ps ++ qs
    → start ≡ length ps → start < length all → x ≡ get_or all start x
    → record { parts = set all start (x.0 + last, x.1); last = other } ≡ joined_parts
    (record { parts = ps; last = last }) qs other
joined-by_widening {E} ps [] all start last other x is at inside reads =
    absurd (omega (arith, ap length is, length-append ps (let none : List (ℕ × E) = [] in none)))
joined-by_widening {E} ps (y ∷ ys) all start last other x is at inside reads =
    let here : x ≡ y = reads ∙ ap (λ (l : List (ℕ × E)). get_or l start x) is
    ∙ ap (λ (i : ℕ). get_or (ps ++ y ∷ ys) i x) at ∙ get_or-append_seam ps y ys x in
    let wide : ℕ × E = (last + y.0, y.1) in
    let same : ◌≡◌ {A = ℕ × E} (x.0 + last, x.1) wide = λ i.
    ((ap (λ (z : ℕ × E). z.0 + last) here ∙ add_comm y.0 last) i, (here i).1) in
    let parts : set all start (x.0 + last, x.1) ≡ ps ++ wide ∷ ys = ap (set all start) same
    ∙ ap (λ (l : List (ℕ × E)). set l start wide) is ∙ ap (λ (i : ℕ). set (ps ++ y ∷ ys) i wide) at
    ∙ set-append_seam ps y ys wide in
    λ i. record { parts = parts i; last = other }

-- a pattern is determined by its parts and its last gap
pub shown-same : {E : Type 0} (p q : Shown E) → p.parts ≡ q.parts → p.last ≡ q.last → p ≡ q
shown-same p q parts last = λ i. record { parts = parts i; last = last i }

-- gaps add up
pub with_gap-more : {E : Type 0} (p : Shown E) (m n : ℕ) → with_gap (with_gap p m) n ≡ with_gap p (m + n)
with_gap-more {E} p m n = shown-same {E = E} _ _ refl (add_assoc p.last m n)

-- a pattern without events and cycles, joined after another, changes nothing
pub joined-no_events : {E : Type 0} (p : Shown E) → joined p no_events ≡ p
joined-no_events p = shown-same (with_gap p 0) p refl (omega arith)

-- a pattern without events and cycles, joined before another, changes nothing
pub no_events-joined : {E : Type 0} (p : Shown E) → joined no_events p ≡ p
no_events-joined {E} p = begins p.parts p.last
  where
    begins : (parts : List (ℕ × E)) (last : ℕ)
        → joined_parts no_events parts last ≡ record { parts = parts; last = last }
    begins [] last = shown-same (with_gap no_events last) (record { parts = []; last = last }) refl (omega arith)
    begins (part ∷ parts) last =
        ap (λ (gap : ℕ). let q : Shown E = record { parts = (gap, part.1) ∷ parts; last = last } in q) (zero-add part.0)

-- cycles after the second pattern
pub joined-gap : {E : Type 0} (p q : Shown E) (n : ℕ) → joined p (with_gap q n) ≡ with_gap (joined p q) n
joined-gap {E} p q n = by q.parts q.last
  where
    by : (parts : List (ℕ × E)) (last : ℕ) → joined_parts p parts (last + n) ≡ with_gap (joined_parts p parts last) n
    by [] last = sym (with_gap-more p last n)
    by (part ∷ parts) last = refl

-- an event after the second pattern
pub joined-event : {E : Type 0} (p q : Shown E) (e : E) → joined p (with_event q e) ≡ with_event (joined p q) e
joined-event {E} p q e = by q.parts q.last
  where
    by : (parts : List (ℕ × E)) (last : ℕ)
        → joined_parts p (parts ++ (last, e) ∷ []) 0 ≡ with_event (joined_parts p parts last) e
    by [] last = refl
    by (part ∷ parts) last =
        shown-same _ _ (sym (append_assoc p.parts ((p.last + part.0, part.1) ∷ parts) ((last, e) ∷ []))) refl

-- three patterns in sequence
pub joined-assoc : {E : Type 0} (p q r : Shown E) → joined (joined p q) r ≡ joined p (joined q r)
joined-assoc {E} p q r = by q.parts q.last r.parts r.last
  where
    by : (parts : List (ℕ × E)) (last : ℕ) (more : List (ℕ × E)) (end : ℕ)
        → joined_parts (joined_parts p parts last) more end ≡ joined p
        (joined_parts (record { parts = parts; last = last }) more end)
    by [] last [] end = with_gap-more p last end
    by [] last (part ∷ more) end =
        ap (λ (gap : ℕ). let s : Shown E = record { parts = p.parts ++ (gap, part.1) ∷ more; last = end } in s)
        (add_assoc p.last last part.0)
    by (first ∷ parts) last [] end = refl
    by (first ∷ parts) last (part ∷ more) end =
        shown-same _ _ (append_assoc p.parts ((p.last + first.0, first.1) ∷ parts)
        ((last + part.0, part.1) ∷ more)) refl
