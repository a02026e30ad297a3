-- A branch on a secret is crossed if both paths through it show the same events. Arms that show the same events make
-- such ways if the first begins with as many cycles as a taken branch costs more than one that isn't taken, and the
-- second ends with the cycles of the jump.
use Rattle.std.proofs.Common.{◌≡◌, ℕ, zero, suc, ◌+◌, ◌-◌, ◌<◌, ◌≤◌, pos, false, List, [], ◌∷◌, ◌++◌, length, replicate, Some, refl, sym, ap, ◌∙◌, subst, arith, length-append}
use Rattle.std.specs.Prelude.{slice_get}
use Rattle.std.proofs.lemmas.List.{append-nil}
use Rattle.gr_word.specs.declared.operations.Cmp.{Cmp}
use Rattle.lt_isa.specs.declared.instructions.Instr.{Instr}
use Rattle.lt_isa.specs.declared.instructions.Instr.TheVariants.{Nop, Jmp, Br}
use Rattle.lt_isa.specs.Prelude.{Parts}
use Rattle.stretches.proofs.Standing.{standing-head}
use Rattle.trace_patterns.specs.Prelude.{Shown, no_events, with_gap, joined, TreeEvent, SymState, common, gap, single, Arms, shape, most_regions, has_note_between, WalksTo, AtEnd, Across, CrossesTo, BothArms, untaken_way, taken_way}
use Rattle.stretches.specs.Prelude.{Show, Gap, pattern_of, region_shows, StandsInArm}
use Rattle.trace_patterns.proofs.PatternLaws.{no_events-joined, joined-no_events}
use Rattle.stretches.proofs.ShowLaws.{no_gap, pattern_of-append, pattern_of-gaps, pattern_of-gap}
use Rattle.trace_patterns.proofs.Shapes.{shape-region}
use Rattle.stretches.proofs.ArmCode.{stands-first, stands-rest, Walked, walked-none, walked-on}

-- instructions that only take cycles
abbrev pub pauses : ℕ → List Instr
pauses n = replicate n Nop

abbrev pub paused : ℕ → List Show
paused n = replicate n (Gap 1)

pub walked-pauses : (o : Parts) (depth : ℕ) (s : SymState) (n : ℕ) → Walked o depth s (pauses n) (paused n) s
unfolding single
walked-pauses o depth s zero = walked-none o depth s
walked-pauses o depth s (suc n) =
    walked-on o depth s Nop (Gap 1) s (pauses n) (paused n) s refl (walked-pauses o depth s n)

-- the gaps of instructions that only take cycles become one
pub pattern_of-paused : (n : ℕ) (shows : List Show) → pattern_of (paused n ++ shows) ≡ pattern_of (Gap n ∷ shows)
pattern_of-paused zero shows =
    sym (ap (λ (g : Shown TreeEvent). joined g (pattern_of shows)) no_gap ∙ no_events-joined (pattern_of shows))
pattern_of-paused (suc n) shows =
    let sum : 1 + n ≡ suc n = omega arith in
    ap (joined (gap 1)) (pattern_of-paused n shows) ∙ pattern_of-gaps 1 n shows
    ∙ ap (λ (m : ℕ). pattern_of (Gap m ∷ shows)) sum

pub pattern_of-pause : (n : ℕ) → pattern_of (paused n) ≡ pattern_of (Gap n ∷ [])
pattern_of-pause n = sym (ap pattern_of (append-nil (paused n))) ∙ pattern_of-paused n []

-- the code of a region: the branch, the first arm, the jump, the second arm
abbrev pub region_code : Cmp → (ra rb : ℕ) → (first second : List Instr) → List Instr
region_code cmp ra rb first second =
    Br cmp ra rb (pos (length first + 2)) ∷ (first ++ (Jmp (pos (length second + 1)) ∷ second))

module _ (o : Parts) (some : 1 ≤ o.profile.taken) where
  -- what the two ways show
  pub untaken-shows : (shows : List Show)
      → untaken_way o (pattern_of (paused (o.profile.taken - 1) ++ shows))
      ≡ pattern_of (region_shows o.profile.taken shows)
  untaken-shows shows =
      let taken = o.profile.taken in
      let whole : 1 + (taken - 1) ≡ taken = omega arith in
      ap (λ (q : Shown TreeEvent). with_gap (joined (gap 1) q) taken) (pattern_of-paused (taken - 1) shows)
      ∙ ap (λ (q : Shown TreeEvent). with_gap q taken)
      (pattern_of-gaps 1 (taken - 1) shows ∙ ap (λ (m : ℕ). pattern_of (Gap m ∷ shows)) whole)
      ∙ sym (pattern_of-gap (Gap taken ∷ shows) taken)

  pub taken-shows : (shows : List Show)
      → taken_way o (pattern_of (shows ++ paused o.profile.taken)) ≡ pattern_of (region_shows o.profile.taken shows)
  taken-shows shows =
      let taken = o.profile.taken in
      ap (joined (gap taken))
      (pattern_of-append shows (paused taken) ∙ ap (joined (pattern_of shows)) (pattern_of-pause taken)
      ∙ sym (pattern_of-append shows (Gap taken ∷ [])))

-- a region whose ways show the same events
module _ (o : Parts) (depth : ℕ) (around : depth < most_regions) (s : SymState) (cmp : Cmp) (ra rb : ℕ)
    (first second : List Instr) (xs ys shows : List Show) (left right : SymState)
    (one : Walked o (depth + 1) s first xs left) (other : Walked o (depth + 1) s second ys right)
    (one_way : untaken_way o (pattern_of xs) ≡ pattern_of shows)
    (other_way : taken_way o (pattern_of ys) ≡ pattern_of shows) where
  abbrev whole : List Instr
  whole = region_code cmp ra rb first second

  -- it is crossed to its join
  pub region-crosses : (p : ℕ) → StandsInArm o p whole
      → CrossesTo o depth (p + length whole) p (pos (length first + 2)) s (pattern_of shows) (p + length whole)
      (common left right)
  region-crosses p stands =
      let on = length first + 2 in
      let back = length second + 1 in
      let branch = Br cmp ra rb (pos on) in
      let jump = Jmp (pos back) in
      let inner = stands-rest o p (branch ∷ []) (first ++ jump ∷ second) stands in
      let at = p + length (branch ∷ []) in
      let mid = at + length first in
      let last = mid + length (jump ∷ []) in
      let first_stands = stands-first o at first (jump ∷ second) inner in
      let rest = stands-rest o at first (jump ∷ second) inner in
      let second_stands = stands-rest o mid (jump ∷ []) second rest in
      let all : length whole ≡ suc (length first + suc (length second)) =
      ap suc (length-append first (jump ∷ second)) in
      let next : at ≡ p + 1 = omega arith in
      let jumps : mid ≡ p + on - 1 = omega arith in
      let begins : last ≡ p + on = omega arith in
      let join : p + on - 1 + back ≡ p + length whole = omega (arith, all) in
      let ends : last + length second ≡ p + length whole = omega (arith, all) in
      let shaped : shape o depth (p + length whole) p (pos on) ≡ Arms (p + on) (p + length whole) =
      shape-region o depth (p + length whole) p on back around (omega arith) (omega arith)
      (subst (λ (q : ℕ). slice_get o.code q ≡ Some jump) jumps (standing-head jump second rest.at)) (omega arith)
      (omega (arith, join))
      (subst (λ (q : ℕ). q < length o.code) (sym join) stands.behind)
      (subst (λ (q : ℕ). has_note_between o p q ≡ false) (sym join) stands.quiet)
      ∙ ap (Arms (p + on)) join in
      let there : WalksTo o (depth + 1) (p + on - 1) (p + 1) s (pattern_of xs) left =
      subst (λ (q : ℕ). WalksTo o (depth + 1) (p + on - 1) q s (pattern_of xs) left) next
      (subst (λ (q : ℕ). WalksTo o (depth + 1) q at s (pattern_of xs) left) jumps (one.walks at first_stands)) in
      let behind : WalksTo o (depth + 1) (p + length whole) (p + on) s (pattern_of ys) right =
      subst (λ (q : ℕ). WalksTo o (depth + 1) (p + length whole) q s (pattern_of ys) right) begins
      (subst (λ (q : ℕ). WalksTo o (depth + 1) q last s (pattern_of ys) right) ends
      (other.walks last second_stands)) in
      subst (λ (q : Shown TreeEvent).
      CrossesTo o depth (p + length whole) p (pos on) s q (p + length whole) (common left right)) one_way
      (BothArms depth (p + length whole) p (pos on) s (p + on) (p + length whole) (pattern_of xs) left (pattern_of ys)
      right shaped there behind (one_way ∙ sym other_way))

  -- the check walks it to its join
  pub walked-region : Walked o depth s whole shows (common left right)
  walked-region = record {
    walks = λ p stands.
        let on = length first + 2 in
        let rest = first ++ (Jmp (pos (length second + 1)) ∷ second) in
        let end = p + length whole in
        let shown = pattern_of shows in
        subst (λ (q : Shown TreeEvent). WalksTo o depth end p s q (common left right)) (joined-no_events shown)
        (Across depth end p s cmp ra rb (pos on) shown end (common left right) no_events (common left right)
        (omega arith) (standing-head (Br cmp ra rb (pos on)) rest stands.at) (region-crosses p stands)
        (AtEnd depth end (common left right)));
  }
