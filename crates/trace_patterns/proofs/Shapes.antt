-- What the shape of a region says about its places.
use Rattle.std.proofs.Common.{◌≡◌, ℕ, zero, suc, ◌+◌, ◌-◌, ◌<◌, ◌≤◌, ◌==◌, Bool, true, false, not, nat_lt, ℤ, pos, negsuc, List, [], ◌∷◌, length, slice_get, Option, Some, refl, ap, ◌∙◌, subst, arith}
use Rattle.std.specs.Prelude.{if◌then◌else◌}
use Rattle.std.proofs.lemmas.Bool.Decides.{nat_tests}
use Rattle.std.proofs.lemmas.Bool.{not-false, or_parts, or_from, ltb-true, ltb-false, leb-false, eqb-false, lt-ltb, le-ltb, lt-leb, ne_eqb}
use Rattle.lt_isa.specs.declared.instructions.Instr.{Instr}
use Rattle.lt_isa.specs.declared.instructions.Instr.TheVariants.{Jmp}
use Rattle.lt_isa.specs.Prelude.{Parts, target_of}
use Rattle.trace_patterns.specs.declared.reasons.Reason.{Reason}
use Rattle.trace_patterns.specs.Prelude.{RegionShape, BadShape, Arms, first_held, most_regions, leads_back, places_on, is_jump, jump_offset, is_outside, has_note_between, second_arm, join_of, shape_tests, shape}

-- the places of a region: a branch at p, a second arm that begins at t after a jump, and a join
pub record IsRegion (o : Parts) (depth end p : ℕ) (offset : ℤ) (t join : ℕ) : Type 0 where
  pub around : depth < most_regions
  pub target : target_of o p offset ≡ t
  pub back : ℤ
  pub jump : slice_get o.code (t - 1) ≡ Some (Jmp back)
  pub joins : target_of o (t - 1) back ≡ join
  pub first : p + 1 < t
  pub second : t ≤ join
  pub ends : join ≤ end
  pub in_code : join < length o.code
  pub no_note : has_note_between o p join ≡ false

-- all tests fail
abbrev pub AllFail : List (Bool × ℕ × Reason) → Type 0
AllFail [] = Unit {0}
AllFail (test ∷ tests) = (test.0 ≡ false) × AllFail tests

-- a region isn't refused exactly if all tests are false; then it has the shape that follows the tests
record Passed (tests : List (Bool × ℕ × Reason)) (next : RegionShape) (t join : ℕ) : Type 0 where
  fails : AllFail tests
  arms : next ≡ Arms t join

passed : (tests : List (Bool × ℕ × Reason)) (next : RegionShape) (t join : ℕ) → first_held tests next ≡ Arms t join
    → Passed tests next t join
passed [] next t join e = record { fails = tt; arms = e }
passed (test ∷ tests) next t join e = by test.0 refl (passed tests next t join) e
  where
    by : (held : Bool) → test.0 ≡ held → (first_held tests next ≡ Arms t join → Passed tests next t join)
        → ◌≡◌ {A = RegionShape} (if held then BadShape test.1 test.2 else first_held tests next) (Arms t join)
        → Passed (test ∷ tests) next t join
    by true is rest e = absurd (let f : ◌≡◌ {A = RegionShape} (BadShape test.1 test.2) (Arms t join) = e in cc)
    by false is rest e = let h = rest e in record { fails = (is, h.fails); arms = h.arms }

passes : (tests : List (Bool × ℕ × Reason)) (next : RegionShape) → AllFail tests → first_held tests next ≡ next
passes [] next fails = refl
passes (test ∷ tests) next fails =
    ap (λ (b : Bool). if b then BadShape test.1 test.2 else first_held tests next) fails.0 ∙ passes tests next fails.1

-- the target of an offset that leads forward
record LeadsOn (o : Parts) (p : ℕ) (offset : ℤ) : Type 0 where
  target : target_of o p offset ≡ p + places_on offset
  forward : 0 < places_on offset

leads_on : (o : Parts) (p : ℕ) (offset : ℤ) → leads_back offset ≡ false → LeadsOn o p offset
leads_on o p (pos zero) e = absurd (let f : true ≡ false = e in cc)
leads_on o p (pos (suc n)) e = record { target = refl; forward = omega arith }
leads_on o p (negsuc n) e = absurd (let f : true ≡ false = e in cc)

a_jump : (i : Option Instr) → not (is_jump i) ≡ false → i ≡ Some (Jmp (jump_offset i))
a_jump (Some (Jmp offset)) e = refl
a_jump i e = absurd (let f : true ≡ false = e in cc)

inside : (o : Parts) (q : ℕ) → is_outside o q ≡ false → q < length o.code
inside o q e = ltb-true q (length o.code) (not-false (nat_lt q (length o.code)) e)

-- the tests of a region, by the places to which it leads
abbrev tests_of : Parts → (depth end p : ℕ) → ℤ → List (Bool × ℕ × Reason)
tests_of o depth end p offset =
    let q = second_arm p offset in
    let before = slice_get o.code (q - 1) in
    shape_tests o depth end p offset q before (join_of q before)

abbrev arms_of : Parts → (p : ℕ) → ℤ → RegionShape
arms_of o p offset = let q = second_arm p offset in Arms q (join_of q (slice_get o.code (q - 1)))

shape-passed : (o : Parts) (depth end p : ℕ) (offset : ℤ) (t join : ℕ) → shape o depth end p offset ≡ Arms t join
    → Passed (tests_of o depth end p offset) (arms_of o p offset) t join
unfolding shape
shape-passed o depth end p offset t join e = passed (tests_of o depth end p offset) (arms_of o p offset) t join e

-- a shape with two arms is a region
pub shape-arms : (o : Parts) (depth end p : ℕ) (offset : ℤ) (t join : ℕ) → shape o depth end p offset ≡ Arms t join
    → IsRegion o depth end p offset t join
shape-arms o depth end p offset t join e =
    let q = second_arm p offset in
    let before = slice_get o.code (q - 1) in
    let r = join_of q before in
    let h = shape-passed o depth end p offset t join e in
    let arms : ◌≡◌ {A = RegionShape} (Arms q r) (Arms t join) = h.arms in
    let same : q ≡ t = cc in
    let at : r ≡ join = cc in
    let around = h.fails.0 in
    let forward = h.fails.1.0 in
    let apart = or_parts (q == p + 1) (nat_lt end q) h.fails.1.1.1.0 in
    let jumps = h.fails.1.1.1.1.0 in
    let on = h.fails.1.1.1.1.1.0 in
    let in_code = h.fails.1.1.1.1.1.1.0 in
    let joins = or_parts (nat_lt end r) (has_note_between o p r) h.fails.1.1.1.1.1.1.1.0 in
    let first = leads_on o p offset forward in
    let second = leads_on o (q - 1) (jump_offset before) on in
    record {
      around = leb-false most_regions depth around;
      target = first.target ∙ same;
      back = jump_offset before;
      jump = subst (λ (n : ℕ). slice_get o.code (n - 1) ≡ Some (Jmp (jump_offset before))) same (a_jump before jumps);
      joins = subst (λ (n : ℕ). target_of o (n - 1) (jump_offset before) ≡ join) same (second.target ∙ at);
      first = omega (arith, eqb-false q (p + 1) apart.0, first.forward, same);
      second = omega (arith, second.forward, same, at, first.forward);
      ends = omega (arith, ltb-false end r joins.0, at);
      in_code = subst (λ (n : ℕ). n < length o.code) at (inside o r in_code);
      no_note = subst (λ (n : ℕ). has_note_between o p n ≡ false) at joins.1;
    }

-- a place within an end is within a later end
less_outside : (end more q : ℕ) → end ≤ more → nat_lt end q ≡ false → nat_lt more q ≡ false
less_outside end more q le e = let h : q ≤ end = ltb-false end q e in grind (arith, nat_tests)

-- a region up to an end has the same shape up to a later end
pub shape-wider : (o : Parts) (depth end p : ℕ) (offset : ℤ) (t join more : ℕ) → end ≤ more
    → shape o depth end p offset ≡ Arms t join → shape o depth more p offset ≡ Arms t join
unfolding shape
shape-wider o depth end p offset t join more le e =
    let q = second_arm p offset in
    let r = join_of q (slice_get o.code (q - 1)) in
    let h = shape-passed o depth end p offset t join e in
    let f = h.fails in
    let apart = or_parts (q == p + 1) (nat_lt end q) f.1.1.1.0 in
    let joins = or_parts (nat_lt end r) (has_note_between o p r) f.1.1.1.1.1.1.1.0 in
    let fails : AllFail (tests_of o depth more p offset) = (
      f.0,
      (
        f.1.0,
        (
          f.1.1.0,
          (
            or_from (q == p + 1) (nat_lt more q) apart.0 (less_outside end more q le apart.1),
            (
              f.1.1.1.1.0,
              (
                f.1.1.1.1.1.0,
                (
                  f.1.1.1.1.1.1.0,
                  (
                    or_from (nat_lt more r) (has_note_between o p r)
                        (less_outside end more r le joins.0) joins.1,
                    tt,
                  ),
                ),
              ),
            ),
          ),
        ),
      ),
    ) in
    passes (tests_of o depth more p offset) (arms_of o p offset) fails ∙ h.arms

-- an offset above 0 leads forward
forward : (n : ℕ) → 0 < n → leads_back (pos n) ≡ false
forward zero h = absurd (omega arith)
forward (suc n) h = refl

within_code : (o : Parts) (q : ℕ) → q < length o.code → is_outside o q ≡ false
within_code o q h = ap not (lt-ltb q (length o.code) h)

-- a branch and a jump before its target, both forward within the code and without a note between, have the shape of a
-- region
pub shape-region : (o : Parts) (depth end p on back : ℕ) → depth < most_regions → 1 < on → 0 < back
    → slice_get o.code (p + on - 1) ≡ Some (Jmp (pos back)) → p + on ≤ p + on - 1 + back → p + on - 1 + back ≤ end
    → p + on - 1 + back < length o.code → has_note_between o p (p + on - 1 + back) ≡ false
    → shape o depth end p (pos on) ≡ Arms (p + on) (p + on - 1 + back)
unfolding shape
shape-region o depth end p on back around far ahead jump behind ends inside quiet =
    let t = p + on in
    let join = t - 1 + back in
    let found : Option Instr = Some (Jmp (pos back)) in
    let fails : AllFail (shape_tests o depth end p (pos on) t found join) = (
      lt-leb most_regions depth around,
      (
        forward on (omega arith),
        (
          within_code o t (omega arith),
          (
            or_from (t == p + 1) (nat_lt end t) (ne_eqb t (p + 1) (λ e. omega arith)) (le-ltb end t (omega arith)),
            (
              refl,
              (
                forward back ahead,
                (
                  within_code o join inside,
                  (or_from (nat_lt end join) (has_note_between o p join) (le-ltb end join ends) quiet, tt),
                ),
              ),
            ),
          ),
        ),
      ),
    ) in
    ap (λ (before : Option Instr).
    first_held (shape_tests o depth end p (pos on) t before (join_of t before)) (Arms t (join_of t before))) jump
    ∙ passes (shape_tests o depth end p (pos on) t found join) (Arms t join) fails
