-- Walks: the places of a region that is crossed, and two walks in sequence.
use Rattle.std.proofs.Common.{ℕ, ◌+◌, ◌-◌, ◌≤◌, ℤ, sym, subst, arith}
use Rattle.lt_isa.specs.Prelude.{Parts}
use Rattle.trace_patterns.specs.Prelude.{Shown, joined, TreeEvent, SymState, WalksTo, AtEnd, Onward, Across, CrossesTo, BothArms}
use Rattle.trace_patterns.proofs.PatternLaws.{no_events-joined, joined-assoc}
use Rattle.trace_patterns.proofs.Shapes.{IsRegion, shape-arms, shape-wider}
use Rattle.trace_patterns.proofs.SymStateLaws.{IsSized, single-sized, sized-common}

-- a region that is crossed has the places of a region
pub crosses-region : (o : Parts) (depth end p : ℕ) (offset : ℤ) (s : SymState) (pattern : Shown TreeEvent) (join : ℕ)
    (state : SymState)
    → CrossesTo o depth end p offset s pattern join state → (second : ℕ) × IsRegion o depth end p offset second join
crosses-region o depth end p offset s pattern join state
    (BothArms d e p' f s' second join' one left other right arms first behind ways) =
    (second, shape-arms o depth end p offset second join arms)

-- a region that is crossed up to an end is crossed up to a later end
pub crosses-wider : (o : Parts) (depth end p : ℕ) (offset : ℤ) (s : SymState) (pattern : Shown TreeEvent) (join : ℕ)
    (state : SymState)
    → CrossesTo o depth end p offset s pattern join state → (more : ℕ) → end ≤ more
    → CrossesTo o depth more p offset s pattern join state
crosses-wider o depth end p offset s pattern join state
    (BothArms d e p' f s' second join' one left other right arms first behind ways) more le =
    BothArms depth more p offset s second join one left other right
    (shape-wider o depth end p offset second join more le arms) first behind ways

-- two walks in sequence
pub walks-then : (o : Parts) (depth mid p : ℕ) (s : SymState) (pattern : Shown TreeEvent) (t : SymState)
    → WalksTo o depth mid p s pattern t
    → (end : ℕ) (rest : Shown TreeEvent) (u : SymState) → mid ≤ end → WalksTo o depth end mid t rest u
    → WalksTo o depth end p s (joined pattern rest) u
walks-then o depth mid p s pattern t (AtEnd d m s') end rest u le more =
    subst (λ (q : Shown TreeEvent). WalksTo o depth end mid s q u) (sym (no_events-joined rest)) more
walks-then o depth mid p s pattern t (Onward d m p' s' i shown v behind t' before at goes walk) end rest u le more =
    subst (λ (q : Shown TreeEvent). WalksTo o depth end p s q u) (sym (joined-assoc shown behind rest))
    (Onward depth end p s i shown v (joined behind rest) u (omega arith) at goes
    (walks-then o depth mid (p + 1) v behind t walk end rest u le more))
walks-then o depth mid p s pattern t
    (Across d m p' s' cmp ra rb offset shown join v behind t' before at crosses walk) end rest u le more =
    subst (λ (q : Shown TreeEvent). WalksTo o depth end p s q u) (sym (joined-assoc shown behind rest))
    (Across depth end p s cmp ra rb offset shown join v (joined behind rest) u (omega arith) at
    (crosses-wider o depth mid p offset s shown join v crosses end le)
    (walks-then o depth mid join v behind t walk end rest u le more))

-- a walk keeps the numbers of registers and slots
mutual
  pub walks-sized : (o : Parts) (depth end p : ℕ) (s : SymState) (pattern : Shown TreeEvent) (t : SymState)
      → WalksTo o depth end p s pattern t → IsSized s → IsSized t
  walks-sized o depth end p s pattern t (AtEnd d m s') sized = sized
  walks-sized o depth end p s pattern t (Onward d m p' s' i shown v rest t' before at goes walk) sized =
      walks-sized o depth end (p + 1) v rest t walk (single-sized s sized o i shown v goes)
  walks-sized o depth end p s pattern t
      (Across d m p' s' cmp ra rb offset shown join v rest t' before at crosses walk) sized =
      walks-sized o depth end join v rest t walk (crosses-sized o depth end p offset s shown join v crosses sized)

  pub crosses-sized : (o : Parts) (depth end p : ℕ) (offset : ℤ) (s : SymState) (pattern : Shown TreeEvent) (join : ℕ)
      (t : SymState)
      → CrossesTo o depth end p offset s pattern join t → IsSized s → IsSized t
  crosses-sized o depth end p offset s pattern join t
      (BothArms d m p' f s' second join' one left other right arms first behind ways) sized =
      sized-common left right (walks-sized o (depth + 1) (second - 1) (p + 1) s one left first sized)
      (walks-sized o (depth + 1) join second s other right behind sized)
