-- Two runs that reach a branch on a secret whose region is crossed show the same events and meet at its join, whichever
-- arm each of them takes.
use Rattle.std.proofs.Common.{◌≡◌, ℕ, ◌+◌, ◌-◌, ◌≤◌, ℤ, List, length, Some, refl, sym, ap, ◌∙◌, subst, arith}
use Rattle.std.specs.Prelude.{slice_get}
use Rattle.gr_word.specs.declared.operations.Cmp.{Cmp}
use Rattle.lt_isa.specs.declared.instructions.Instr.TheVariants.{Br}
use Rattle.lt_isa.specs.Prelude.{Parts, IsInRange, State, Stamped, Reaches, IsShaped}
use Rattle.lt_isa.proofs.Stretches.{reaches-shaped}
use Rattle.lt_isa.proofs.Lockstep.{Meets}
use Rattle.trace_patterns.specs.Prelude.{Shown, TreeEvent, Known, SymState, at_entry, known_after, common, WalksTo, CrossesTo, BothArms, untaken_way, CrossesFrom}
use Rattle.trace_patterns.proofs.Shapes.{shape-arms}
use Rattle.lt_checker.proofs.Related.{Related}
use Rattle.lt_checker.proofs.PatternValues.{played, ends, ends-least}
use Rattle.lt_checker.proofs.ArmSteps.{Runs}
use Rattle.lt_checker.proofs.ArmRuns.{region_runs, arm_runs}
use Rattle.lt_checker.proofs.ArmsAgree.{ShowsAlike, Agrees, untaken_alike, agrees_common, arm_agrees}
use Rattle.lt_checker.proofs.RegionEnds.{entry_first, entry_second, entry_agrees, related_after}

-- two states are at one place, related by what is known there
pub record MeetAt (join : ℕ) (k : Known) (s t : State) : Type 0 where
  pub place : s.place ≡ join
  pub related : Related k s t

-- a run through a region takes at least one cycle
region_later : (o : Parts) → IsInRange o
    → (e s : State) (q : ℕ) (one : Shown TreeEvent) (known : SymState) (run : Runs o e s q (untaken_way o one) known)
    → s.cycle + 1 ≤ run.last.cycle
region_later o fits e s q one known run =
    omega (arith, run.cycle, ends-least o s.cycle (untaken_way o one), fits.profile.taken.0)

-- two runs through a region show the same events and meet
meets : (o : Parts) → IsInRange o → (k : Known) (join : ℕ) (one : Shown TreeEvent) (known : SymState) (s t : State)
    → IsShaped o s → IsShaped o t → Related k s t → ShowsAlike o s t (untaken_way o one) → Agrees s t known
    → Runs o s s join (untaken_way o one) known → Runs o t t join (untaken_way o one) known
    → Meets o (MeetAt join (known_after known)) s t
meets o fits k join one known s t shape_s shape_t related shows agrees first second =
    let parts = (untaken_way o one).parts in
    let same : played o t t.cycle parts ≡ played o s s.cycle parts = ap (λ (c : ℕ). played o t c parts)
    (sym related.cycle) ∙ sym (shows s.cycle) in
    record {
      events = played o s s.cycle parts;
      first = first.last;
      second = second.last;
      first_reached = first.reached;
      second_reached = subst (λ (es : List Stamped). Reaches o t es second.last) same second.reached;
      first_later = region_later o fits s s join one known first;
      second_later = region_later o fits t t join one known second;
      related = record {
        place = first.at;
        related = related_after o s t known first.last second.last related.ram agrees first.described second.described
            (reaches-shaped o fits s (played o s s.cycle parts) first.last first.reached shape_s)
            (reaches-shaped o fits t (played o t t.cycle parts) second.last second.reached shape_t)
            (first.at ∙ sym second.at)
            (first.cycle ∙ ap (λ (c : ℕ). ends o c (untaken_way o one)) related.cycle ∙ sym second.cycle);
      };
    }

-- A region that is crossed, from two related states at its branch.
module _ (o : Parts) (fits : IsInRange o) (k : Known) (cmp : Cmp) (ra rb : ℕ) (offset : ℤ) (s t : State)
    (at : slice_get o.code s.place ≡ Some (Br cmp ra rb offset)) (shape_s : IsShaped o s) (shape_t : IsShaped o t)
    (related : Related k s t) where
  alike_from : (depth end p : ℕ) (u : SymState) (pattern : Shown TreeEvent) (join : ℕ) (state : SymState)
      → CrossesTo o depth end p offset u pattern join state → p ≡ s.place → u ≡ at_entry k
      → Meets o (MeetAt join (known_after state)) s t
  alike_from depth end p u pattern join state
      (BothArms d e p' f u' second join' one left other right arms walk_first walk_second ways) here entry =
      let first = subst (λ (x : SymState). WalksTo o (depth + 1) (second - 1) (p + 1) x one left) entry walk_first in
      let behind = subst (λ (x : SymState). WalksTo o (depth + 1) join second x other right) entry walk_second in
      let at' : slice_get o.code p ≡ Some (Br cmp ra rb offset) = ap (slice_get o.code) here ∙ at in
      let runs = λ (e : State).
      region_runs o fits e depth end p cmp ra rb offset second join (at_entry k) one left other right at'
      (shape-arms o depth end p offset second join arms) ways
      (arm_runs o fits e (depth + 1) (second - 1) (p + 1) (at_entry k) one left first)
      (arm_runs o fits e (depth + 1) join second (at_entry k) other right behind) in
      let one_run = runs s s (sym here) shape_s (entry_first k s t related) in
      let other_run = runs t t (sym related.place ∙ sym here) shape_t (entry_second k s t related) in
      let arm = arm_agrees o s t related.ram (depth + 1) (second - 1) (p + 1) (at_entry k) one left first
      (entry_agrees k s t related) in
      meets o fits k join one (common left right) s t shape_s shape_t related (untaken_alike o s t one arm.shows)
      (agrees_common s t left right arm.agrees) one_run other_run

  -- two related runs meet again at the join of a region
  pub crossed_alike : (pattern : Shown TreeEvent) (join : ℕ) (state : SymState)
      → CrossesFrom o s.place offset k pattern join state → Meets o (MeetAt join (known_after state)) s t
  crossed_alike pattern join state crosses =
      alike_from 0 (length o.code - 1) s.place (at_entry k) pattern join state crosses refl refl
