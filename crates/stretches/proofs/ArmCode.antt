-- Code of an arm, at any place: the check walks it from its first instruction to the place after its last. What it
-- shows depends on the code and on what is known before it, not on the place.
use Rattle.std.proofs.Common.{◌≡◌, ℕ, ◌+◌, ◌<◌, ◌≤◌, false, ◌&&◌, nat_lt, List, [], ◌∷◌, ◌++◌, length, refl, sym, ◌∙◌, subst, arith, length-append}
use Rattle.std.specs.List.{list_any}
use Rattle.std.proofs.lemmas.Bool.{or_parts, or_from, lt-ltb, ltb-true, and_from, and_parts, true≢false, false_from_ne_true}
use Rattle.lt_isa.specs.declared.symbols.Note.{Note}
use Rattle.lt_isa.specs.declared.instructions.Instr.{Instr}
use Rattle.lt_isa.specs.Prelude.{Parts}
use Rattle.stretches.proofs.Standing.{standing-first, standing-rest, standing-head}
use Rattle.trace_patterns.specs.Prelude.{Shown, no_events, joined, TreeEvent, SymState, Goes, single, has_note_between, WalksTo, AtEnd, Onward}
use Rattle.stretches.specs.Prelude.{Show, pattern_of_one, pattern_of, StandsInArm}
use Rattle.stretches.proofs.ShowLaws.{pattern_of-append}
use Rattle.trace_patterns.proofs.Walks.{walks-then}

-- if no note is between two places, none is between two places within these
fewer_notes : (notes : List Note) (low high from to : ℕ) → low ≤ from → to ≤ high
    → list_any (λ n. nat_lt low n.pc && nat_lt n.pc high) notes ≡ false
    → list_any (λ n. nat_lt from n.pc && nat_lt n.pc to) notes ≡ false
fewer_notes [] low high from to le ge none = refl
fewer_notes (n ∷ notes) low high from to le ge none =
    let tests = or_parts (nat_lt low n.pc && nat_lt n.pc high)
    (list_any (λ m. nat_lt low m.pc && nat_lt m.pc high) notes) none in
    or_from (nat_lt from n.pc && nat_lt n.pc to) (list_any (λ m. nat_lt from m.pc && nat_lt m.pc to) notes)
    (false_from_ne_true (nat_lt from n.pc && nat_lt n.pc to) (λ both.
    let parts = and_parts (nat_lt from n.pc) (nat_lt n.pc to) both in
    let after : from < n.pc = ltb-true from n.pc parts.0 in
    let before : n.pc < to = ltb-true n.pc to parts.1 in
    true≢false (sym (and_from (nat_lt low n.pc) (nat_lt n.pc high) (lt-ltb low n.pc (omega arith))
    (lt-ltb n.pc high (omega arith))) ∙ tests.0)))
    (fewer_notes notes low high from to le ge tests.1)

pub quiet_within : (o : Parts) (low high from to : ℕ) → low ≤ from → to ≤ high → has_note_between o low high ≡ false
    → has_note_between o from to ≡ false
quiet_within o low high from to le ge none = fewer_notes o.notes low high from to le ge none

-- code in two parts
module _ (o : Parts) (p : ℕ) (first rest : List Instr) (stands : StandsInArm o p (first ++ rest)) where
  -- the first part is in the arm
  pub stands-first : StandsInArm o p first
  stands-first =
      let size = length-append first rest in
      record {
        at = standing-first first rest stands.at;
        behind = let inside = stands.behind in omega (arith, size);
        quiet = quiet_within o p (p + length (first ++ rest)) p (p + length first) (omega arith)
            (omega (arith, size)) stands.quiet;
      }

  -- the second part is in the arm
  pub stands-rest : StandsInArm o (p + length first) rest
  stands-rest =
      let size = length-append first rest in
      record {
        at = standing-rest first rest stands.at;
        behind = let inside = stands.behind in omega (arith, size);
        quiet = quiet_within o p (p + length (first ++ rest)) (p + length first) ((p + length first) + length rest)
            (omega arith) (omega (arith, size)) stands.quiet;
      }

-- inside `depth` regions, the check walks the code from s to t, and this is shown
pub record Walked (o : Parts) (depth : ℕ) (s : SymState) (code : List Instr) (shows : List Show)
    (t : SymState) : Type 0 where
  pub walks : (p : ℕ) → StandsInArm o p code → WalksTo o depth (p + length code) p s (pattern_of shows) t

module _ (o : Parts) (depth : ℕ) where
  -- a walk of no code
  pub walked-none : (s : SymState) → Walked o depth s [] [] s
  walked-none s = record {
    walks = λ p stands.
        let same : p ≡ p + length (let none : List Instr = [] in none) = omega arith in
        subst (λ (end : ℕ). WalksTo o depth end p s no_events s) same (AtEnd depth p s);
  }

  -- a walk of one instruction
  pub walked-one : (s : SymState) (i : Instr) (x : Show) (t : SymState) → single o s i ≡ Goes (pattern_of_one x) t
      → Walked o depth s (i ∷ []) (x ∷ []) t
  walked-one s i x t goes = record {
    walks = λ p stands.
        let same : p + 1 ≡ p + length (i ∷ []) = omega arith in
        subst (λ (end : ℕ). WalksTo o depth end p s (joined (pattern_of_one x) no_events) t) same
        (Onward depth (p + 1) p s i (pattern_of_one x) t no_events t (omega arith) (standing-head i [] stands.at) goes
        (AtEnd depth (p + 1) t));
  }

  -- two walks in sequence
  pub walked-then : (s : SymState) (first : List Instr) (xs : List Show) (t : SymState) (rest : List Instr)
      (ys : List Show) (u : SymState)
      → Walked o depth s first xs t → Walked o depth t rest ys u → Walked o depth s (first ++ rest) (xs ++ ys) u
  walked-then s first xs t rest ys u one other = record {
    walks = λ p stands.
        let mid = p + length first in
        let end = p + length (first ++ rest) in
        let same : mid + length rest ≡ end = omega (arith, length-append first rest) in
        let le : mid ≤ end = omega (arith, length-append first rest) in
        let behind : WalksTo o depth end mid t (pattern_of ys) u =
        subst (λ (e : ℕ). WalksTo o depth e mid t (pattern_of ys) u) same
        (other.walks mid (stands-rest o p first rest stands)) in
        subst (λ (q : Shown TreeEvent). WalksTo o depth end p s q u) (sym (pattern_of-append xs ys))
        (walks-then o depth mid p s (pattern_of xs) t (one.walks p (stands-first o p first rest stands)) end
        (pattern_of ys) u le behind);
  }

  -- one instruction and then the rest
  pub walked-on : (s : SymState) (i : Instr) (x : Show) (t : SymState) (rest : List Instr) (ys : List Show)
      (u : SymState)
      → single o s i ≡ Goes (pattern_of_one x) t → Walked o depth t rest ys u → Walked o depth s (i ∷ rest) (x ∷ ys) u
  walked-on s i x t rest ys u goes other =
      walked-then s (i ∷ []) (x ∷ []) t rest ys u (walked-one s i x t goes) other
