-- The list of least notes is one: the same places with the same claims.
use Rattle.std.proofs.Common.{◌≡◌, ℕ, ◌+◌, ◌<◌, ◌≤◌, Bool, List, [], ◌∷◌, ◌++◌, map, ◌⊎◌, inl, inr, Option, Some, None, refl, sym, ap, ◌∙◌, subst, ⊎_elim, arith}
use Rattle.std.specs.Prelude.{if◌then◌else◌}
use Rattle.std.specs.Option.{option_map}
use Rattle.std.proofs.lemmas.Bool.{cases_eq, cases_lt, eq-eqb, ne_eqb}
use Rattle.gr_base.specs.Prelude.{EachAfter}
use Rattle.gr_base.proofs.AtLast.{at_last-push}
use Rattle.lt_isa.specs.declared.symbols.Note.{Note}
use Rattle.lt_isa.specs.Prelude.{Parts, next_place}
use Rattle.trace_patterns.specs.Prelude.{Known, note_known, note_of_place, without_notes}
use Rattle.note_infer.specs.Prelude.{Branches, Jumps, States, IsLeast, IsTarget, OfJump, OfBranch, StandAtTargets, claim_of, LeastNotesAreOne, claims_at}
use Rattle.note_infer.proofs.Once.{last-once}
use Rattle.note_infer.proofs.Inferring.{same_stand, claims_are}
use Rattle.note_infer.proofs.SameParts.{known_once, none_not}

-- something is known at a target
target_known : (o : Parts) (crossed : List ℕ) (states : States) (q : ℕ) → IsLeast o crossed states
    → IsTarget o crossed states q → (k : Known) × (states q ≡ Some k)
target_known o crossed states q least (OfJump p q' k offset is at to inside) =
    let a = least.closed.ways p q k k is (Jumps p k q k offset at to inside refl) in (a.known, a.is)
target_known o crossed states q least (OfBranch p q' k cmp ra rb offset is at apart to inside) =
    let a = least.closed.ways p q k k is (Branches p k q k cmp ra rb offset at apart to inside refl) in (a.known, a.is)

some_claims : (o : Parts) (crossed : List ℕ) (states : States) (xs ys : List Note) (q : ℕ) (c : Known)
    → IsLeast o crossed states → StandAtTargets o crossed states xs → StandAtTargets o crossed states ys
    → claims_at xs q ≡ Some c → claims_at ys q ≡ Some c
some_claims o crossed states xs ys q c least one two e =
    let target = one.only q c (claims_are o xs q ∙ e) in
    let known = target_known o crossed states q least target in
    let mine = sym (claims_are o xs q) ∙ one.has q known.0 target known.1 in
    let theirs = sym (claims_are o ys q) ∙ two.has q known.0 target known.1 in
    theirs ∙ sym mine ∙ e

same_claims : (o : Parts) (crossed : List ℕ) (states : States) (xs ys : List Note) → IsLeast o crossed states
    → StandAtTargets o crossed states xs → StandAtTargets o crossed states ys
    → (q : ℕ) → claims_at xs q ≡ claims_at ys q
same_claims o crossed states xs ys least one two q =
    by (claims_at xs q) (claims_at ys q) (λ c e. some_claims o crossed states xs ys q c least one two e)
    (λ c e. some_claims o crossed states ys xs q c least two one e)
  where
    by : (a b : Option Known) → ((c : Known) → a ≡ Some c → b ≡ Some c) → ((c : Known) → b ≡ Some c → a ≡ Some c)
        → a ≡ b
    by None None there back = refl
    by (Some c) b there back = sym (there c refl)
    by None (Some c) there back = back c refl

-- notes that rise
abbrev pub Rises : List Note → List Note → Type 0
Rises before notes = EachAfter (λ earlier n. next_place earlier ≤ n.pc) before notes

behind_one : (before : List Note) (n : Note) → next_place (before ++ n ∷ []) ≡ n.pc + 1
behind_one before n = at_last-push (λ (m : Note). m.pc + 1) before n

none_below : (before notes : List Note) (q : ℕ) → Rises before notes → q < next_place before → claims_at notes q ≡ None
none_below before [] q h lt = refl
none_below before (n ∷ notes) q h lt =
    let ne : n.pc ≡ q → ⊥ = λ e. omega (arith, h.0, lt, e) in
    ap (λ (b : Bool). option_map note_known (let r : Option Note = if b then Some n else note_of_place notes q in r))
    (ne_eqb n.pc q ne)
    ∙ none_below (before ++ n ∷ []) notes q h.1 (omega (arith, behind_one before n, h.0, lt))

at_head : (n : Note) (notes : List Note) → claims_at (n ∷ notes) n.pc ≡ Some (note_known n)
at_head n notes =
    ap (λ (b : Bool). option_map note_known (let r : Option Note = if b then Some n else note_of_place notes n.pc in r))
    (eq-eqb n.pc n.pc refl)

off_head : (n : Note) (notes : List Note) (q : ℕ) → (n.pc ≡ q → ⊥) → claims_at (n ∷ notes) q ≡ claims_at notes q
off_head n notes q ne =
    ap (λ (b : Bool). option_map note_known (let r : Option Note = if b then Some n else note_of_place notes q in r))
    (ne_eqb n.pc q ne)

-- one of two heads isn't lower than the other
not_lower : (before others : List Note) (n m : Note) (xs ys : List Note) → Rises others (m ∷ ys)
    → ((q : ℕ) → claims_at (n ∷ xs) q ≡ claims_at (m ∷ ys) q) → n.pc < m.pc → ⊥
not_lower before others n m xs ys rises same lt =
    let none = none_below (others ++ m ∷ []) ys n.pc rises.1 (omega (arith, behind_one others m, lt)) in
    none_not (note_known n) (sym none ∙ sym (off_head m ys n.pc (λ e. omega (arith, e, lt))) ∙ sym (same n.pc)
    ∙ at_head n xs)

same_list : (before others xs ys : List Note) → Rises before xs → Rises others ys
    → ((q : ℕ) → claims_at xs q ≡ claims_at ys q) → map claim_of xs ≡ map claim_of ys
same_list before others [] [] one two same = refl
same_list before others [] (m ∷ ys) one two same = none_not (note_known m) (same m.pc ∙ at_head m ys)
same_list before others (n ∷ xs) [] one two same = none_not (note_known n) (sym (same n.pc) ∙ at_head n xs)
same_list before others (n ∷ xs) (m ∷ ys) one two same =
    let at : n.pc ≡ m.pc =
    ⊎_elim (λ (lt : n.pc < m.pc). absurd (not_lower before others n m xs ys two same lt))
    (λ (le : m.pc ≤ n.pc).
    ⊎_elim (λ (lt : m.pc < n.pc). absurd (not_lower others before m n ys xs one (λ q. sym (same q)) lt))
    (λ (ge : n.pc ≤ m.pc). omega (arith, le, ge)) (cases_lt m.pc n.pc))
    (cases_lt n.pc m.pc) in
    let known : note_known n ≡ note_known m =
    known_once (note_known n) (note_known m) (sym (at_head n xs) ∙ same n.pc
    ∙ ap (claims_at (m ∷ ys)) at ∙ at_head m ys) in
    let rest = same_list (before ++ n ∷ []) (others ++ m ∷ []) xs ys one.1 two.1
    (λ q. tail q at (cases_eq n.pc q)) in
    ap (λ (p : ℕ × Known). p ∷ map claim_of xs) (ap (λ (p : ℕ). (p, note_known n)) at ∙ ap (λ (k : Known).
    (m.pc, k)) known)
    ∙ ap (λ (l : List (ℕ × Known)). claim_of m ∷ l) rest
  where
    tail : (q : ℕ) → n.pc ≡ m.pc → (n.pc ≡ q) ⊎ (n.pc ≡ q → ⊥) → claims_at xs q ≡ claims_at ys q
    tail q at (inl e) =
        none_below (before ++ n ∷ []) xs q one.1 (omega (arith, behind_one before n, e))
        ∙ sym (none_below (others ++ m ∷ []) ys q two.1 (omega (arith, behind_one others m, e, at)))
    tail q at (inr ne) =
        sym (off_head n xs q ne) ∙ same q ∙ off_head m ys q (λ e. ne (at ∙ e))

pub least_notes_are_one : (o : Parts) → LeastNotesAreOne o
least_notes_are_one o xs ys one two =
    let bare = without_notes o in
    let a = one.are in
    let b = two.are in
    let same = last-once bare a.crossed b.crossed a.states b.states a.last b.last in
    let least = subst (λ (c : List ℕ). IsLeast bare c b.states) (sym same) b.last.least in
    let stand = subst (λ (c : List ℕ). StandAtTargets bare c b.states ys) (sym same) b.stand in
    same_list [] [] xs ys one.rise two.rise
    (same_claims bare a.crossed a.states xs ys a.last.least a.stand
    (same_stand bare a.crossed a.states b.states ys a.last.least least stand))
