-- What `infer` finds of an object is one object, or one cause why there is none: notes that are in range are known by
-- what they claim.
use Rattle.std.proofs.Common.{◌≡◌, ◌≢◌, ℕ, zero, suc, ◌<◌, ◌≤◌, ◌==◌, Bool, false, List, [], ◌∷◌, length, map, get_or, Option, Some, None, Result, Ok, Err, refl, sym, ap, ap₂, ◌∙◌, subst, ⊎_elim, arith}
use Rattle.std.specs.Prelude.{if◌then◌else◌}
use Rattle.std.specs.Int.{bit_at}
use Rattle.std.proofs.lemmas.Bool.{cases_eq, cases_lt, eqb-true, eq-eqb, ne_eqb}
use Rattle.std.proofs.lemmas.List.{ext_get_or, length-map}
use Rattle.std.proofs.lemmas.Nat.Bits.{bit_at-lt, same_from_bits_below}
use Rattle.gr_base.specs.Prelude.{EachAfter}
use Rattle.lt_isa.specs.declared.symbols.Note.{Note}
use Rattle.lt_isa.specs.Prelude.{Parts, IsInRange, NoteFits}
use Rattle.lt_checker.proofs.AcceptanceLaws.{first_refusal-once, refused_is_not_accepted}
use Rattle.trace_patterns.specs.Prelude.{Accepts, FirstRefusal, Known, claimed_bank}
use Rattle.trace_patterns.proofs.Masks.{get_or-marks, get_or-claims}
use Rattle.note_infer.specs.Prelude.{with_notes, claim_of, HasLeastNotes, IsWhyNot, IsDead}
use Rattle.note_infer.specs.declared.faults.InferError.{InferError}
use Rattle.note_infer.specs.declared.faults.InferError.TheVariants.{Dead, Refused, TooMany, Memory}
use Rattle.note_infer.proofs.OneList.{least_notes_are_one}
use Rattle.call_steps.specs.Prelude.{GetsNotes, InferredOnce, IsRight, WhatIsInferred}

-- ---- one field

any-claimed : (a : ℕ) → a ≡ 255 → claimed_bank a ≡ None
any-claimed a is = ap (λ (b : Bool). let r : Option ℕ = if b then None else Some a in r) (eq-eqb a 255 is)

one-claimed : (a : ℕ) → (a ≡ 255 → ⊥) → claimed_bank a ≡ Some a
one-claimed a other = ap (λ (b : Bool). let r : Option ℕ = if b then None else Some a in r) (ne_eqb a 255 other)

none-some : {X : Type 0} (a : ℕ) → ◌≡◌ {A = Option ℕ} None (Some a) → X
none-some a e = absurd (let f : ◌≡◌ {A = Option ℕ} None (Some a) = e in cc)

some-once : (a b : ℕ) → ◌≡◌ {A = Option ℕ} (Some a) (Some b) → a ≡ b
some-once a b e = cc

-- the claim about a slot
slot-once : (a b : ℕ) → claimed_bank a ≡ claimed_bank b → a ≡ b
slot-once a b same =
    ⊎_elim
    (λ (any : a ≡ 255).
    ⊎_elim (λ (too : b ≡ 255). any ∙ sym too)
    (λ (one : b ≡ 255 → ⊥). none-some b (sym (any-claimed a any) ∙ same ∙ one-claimed b one)) (cases_eq b 255))
    (λ (other : a ≡ 255 → ⊥).
    ⊎_elim (λ (any : b ≡ 255). none-some a (sym (any-claimed b any) ∙ sym same ∙ one-claimed a other))
    (λ (one : b ≡ 255 → ⊥). some-once a b (sym (one-claimed a other) ∙ same ∙ one-claimed b one)) (cases_eq b 255))
    (cases_eq a 255)

bit-low : (x : ℕ) → x < 2 → (x ≡ 1 → ⊥) → x ≡ 0
bit-low zero small other = refl
bit-low (suc zero) small other = absurd (other refl)
bit-low (suc (suc k)) small other = absurd (omega (arith, small))

-- a bit
bit-once : (x y : ℕ) → x < 2 → y < 2 → (x == 1) ≡ (y == 1) → x ≡ y
bit-once x y small less same =
    ⊎_elim (λ (one : x ≡ 1). one ∙ sym (eqb-true y 1 (sym same ∙ eq-eqb x 1 one)))
    (λ (none : x ≡ 1 → ⊥).
    bit-low x small none ∙ sym (bit-low y less (λ e. none (eqb-true x 1 (same ∙ eq-eqb y 1 e)))))
    (cases_eq x 1)

-- ---- a note, and the notes

made-once : (m n : Note) → m.pc ≡ n.pc → m.secrets ≡ n.secrets → m.slots ≡ n.slots → m ≡ n
made-once m n pc secrets slots =
    ap (λ (x : ℕ). let r : Note = record { pc = x; secrets = m.secrets; slots = m.slots } in r) pc
    ∙ ap (λ (x : ℕ). let r : Note = record { pc = n.pc; secrets = x; slots = m.slots } in r) secrets
    ∙ ap (λ (x : List ℕ). let r : Note = record { pc = n.pc; secrets = n.secrets; slots = x } in r) slots

abbrev known-of : ℕ × Known → Known
known-of c = c.1

abbrev place-of : ℕ × Known → ℕ
place-of c = c.0

note-once : (banks : ℕ) (before others : List Note) (m n : Note) → NoteFits banks before m → NoteFits banks others n
    → claim_of m ≡ claim_of n → m ≡ n
note-once banks before others m n fits too same =
    let known = ap known-of same in
    made-once m n (ap place-of same)
    (same_from_bits_below 32 m.secrets n.secrets fits.secrets too.secrets (λ r within.
    bit-once (bit_at m.secrets r) (bit_at n.secrets r) (bit_at-lt m.secrets r) (bit_at-lt n.secrets r)
    (sym (get_or-marks 32 m.secrets r false within)
    ∙ ap (λ (k : Known). get_or k.secret r false) known
    ∙ get_or-marks 32 n.secrets r false within)))
    (ext_get_or 255 m.slots n.slots (fits.slot_count ∙ sym too.slot_count) (λ j inside.
    let within : j < 8 = omega (arith, inside, fits.slot_count) in
    slot-once (get_or m.slots j 255) (get_or n.slots j 255)
    (sym (get_or-claims 8 m.slots j None within)
    ∙ ap (λ (k : Known). get_or k.banks j None) known
    ∙ get_or-claims 8 n.slots j None within)))

heads-same : (c d : ℕ × Known) (cs ds : List (ℕ × Known)) → c ∷ cs ≡ d ∷ ds → c ≡ d
heads-same c d cs ds e = cc

tails-same : (c d : ℕ × Known) (cs ds : List (ℕ × Known)) → c ∷ cs ≡ d ∷ ds → cs ≡ ds
tails-same c d cs ds e = cc

empty-made : {X : Type 0} (c : ℕ × Known) (cs : List (ℕ × Known)) → ◌≡◌ {A = List (ℕ × Known)} [] (c ∷ cs) → X
empty-made c cs e = absurd (let f : ◌≡◌ {A = List (ℕ × Known)} [] (c ∷ cs) = e in cc)

notes-once : (banks : ℕ) (before others xs ys : List Note)
    → EachAfter (NoteFits banks) before xs → EachAfter (NoteFits banks) others ys
    → map claim_of xs ≡ map claim_of ys → xs ≡ ys
notes-once banks before others [] [] fits too same = refl
notes-once banks before others [] (n ∷ ys) fits too same = empty-made (claim_of n) (map claim_of ys) same
notes-once banks before others (m ∷ xs) [] fits too same = empty-made (claim_of m) (map claim_of xs) (sym same)
notes-once banks before others (m ∷ xs) (n ∷ ys) fits too same =
    let first : m ≡ n =
    note-once banks before others m n fits.0 too.0
    (heads-same (claim_of m) (claim_of n) (map claim_of xs) (map claim_of ys) same) in
    let rest : xs ≡ ys =
    notes-once banks _ _ xs ys fits.1 too.1
    (tails-same (claim_of m) (claim_of n) (map claim_of xs) (map claim_of ys) same) in
    ap (λ (k : Note). k ∷ xs) first ∙ ap (λ (ks : List Note). n ∷ ks) rest

-- ---- the object

pub inferred-once : InferredOnce
inferred-once o found other one two =
    let a = one.inferred in
    let b = two.inferred in
    let same : a.notes ≡ b.notes =
    notes-once (length o.banks) [] [] a.notes b.notes (subst IsInRange a.is one.in_range).notes
    (subst IsInRange b.is two.in_range).notes
    (least_notes_are_one o a.notes b.notes a.least.listed b.least.listed) in
    a.is ∙ ap (with_notes o) same ∙ sym b.is

-- ---- why an object gets no notes

dead-once : (o : Parts) (p q : ℕ) → IsDead o p → IsDead o q → p ≡ q
dead-once o p q h g =
    ⊎_elim (λ (lt : p < q). absurd (h.dead (g.lowest p lt)))
    (λ (le : q ≤ p).
    ⊎_elim (λ (lt : q < p). absurd (g.dead (h.lowest q lt))) (λ (ge : p ≤ q). omega (arith, le, ge)) (cases_lt q p))
    (cases_lt p q)

not-dead : (o : Parts) (notes : List Note) (p : ℕ) → HasLeastNotes o notes → IsDead o p → ⊥
not-dead o notes p h d = d.dead (h.reachable p d.inside)

counts-once : (o : Parts) (xs ys : List Note) → HasLeastNotes o xs → HasLeastNotes o ys → length xs ≡ length ys
counts-once o xs ys h g =
    sym (length-map xs claim_of) ∙ ap (λ (l : List (ℕ × Known)). length l) (least_notes_are_one o xs ys h.listed g.listed)
    ∙ length-map ys claim_of

in-range-once : (o : Parts) (xs ys : List Note) → HasLeastNotes o xs → HasLeastNotes o ys → IsInRange (with_notes o xs)
    → IsInRange (with_notes o ys) → xs ≡ ys
in-range-once o xs ys h g range too =
    notes-once (length o.banks) [] [] xs ys range.notes too.notes (least_notes_are_one o xs ys h.listed g.listed)

cause-once : (o : Parts) (a b : InferError) → a ≢ Memory → b ≢ Memory → IsWhyNot o a → IsWhyNot o b → a ≡ b
cause-once o (Dead p) (Dead q) told told' h g = ap Dead (dead-once o p q h g)
cause-once o (Dead p) (Refused q r) told told' h g = absurd (not-dead o g.notes p g.least h)
cause-once o (Dead p) (TooMany n) told told' h g = absurd (not-dead o g.notes p g.least h)
cause-once o (Refused q r) (Dead p) told told' h g = absurd (not-dead o h.notes p h.least g)
cause-once o (Refused p r) (Refused q u) told told' h g =
    let notes = in-range-once o g.notes h.notes g.least h.least g.in_range h.in_range in
    let same = first_refusal-once (with_notes o h.notes) p q r u h.refused
    (subst (λ (ns : List Note). FirstRefusal (with_notes o ns) q u) notes g.refused) in
    ap₂ Refused same.0 same.1
cause-once o (Refused p r) (TooMany n) told told' h g =
    absurd (omega (arith, h.few, g.many, counts-once o h.notes g.notes h.least g.least))
cause-once o (TooMany n) (Dead p) told told' h g = absurd (not-dead o h.notes p h.least g)
cause-once o (TooMany n) (Refused p r) told told' h g =
    absurd (omega (arith, g.few, h.many, counts-once o g.notes h.notes g.least h.least))
cause-once o (TooMany n) (TooMany m) told told' h g =
    ap TooMany (h.is ∙ counts-once o h.notes g.notes h.least g.least ∙ sym g.is)
cause-once o Memory b told told' h g = absurd (told refl)
cause-once o a Memory told told' h g = absurd (told' refl)

-- an object that gets notes has no cause to get none
found-or-not : (o found : Parts) (why : InferError) → GetsNotes o found → why ≢ Memory → IsWhyNot o why → ⊥
found-or-not o found (Dead p) gets told h = not-dead o gets.inferred.notes p gets.inferred.least h
found-or-not o found (Refused p r) gets told h =
    let i = gets.inferred in
    let notes = in-range-once o i.notes h.notes i.least h.least (subst IsInRange i.is gets.in_range) h.in_range in
    refused_is_not_accepted (with_notes o h.notes) p r h.refused
    (subst Accepts (i.is ∙ ap (with_notes o) notes) i.accepts)
found-or-not o found (TooMany n) gets told h =
    let i = gets.inferred in omega (arith, i.few, h.many, counts-once o i.notes h.notes i.least h.least)
found-or-not o found Memory gets told h = told refl

pub inference-once : (o : Parts) (a b : Result Parts InferError) → IsRight (WhatIsInferred o) a
    → IsRight (WhatIsInferred o) b → a ≡ b
inference-once o (Ok found) (Ok other) one two = ap Ok (inferred-once o found other one two)
inference-once o (Ok found) (Err why) one two = absurd (found-or-not o found why one two.told two.cause)
inference-once o (Err why) (Ok found) one two = absurd (found-or-not o found why two one.told one.cause)
inference-once o (Err why) (Err other) one two = ap Err (cause-once o why other one.told two.told one.cause two.cause)
