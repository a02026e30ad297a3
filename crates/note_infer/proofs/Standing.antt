-- What is known under the least notes at a place that is visited is what the least states say.
use Rattle.std.proofs.Common.{◌≡◌, ℕ, ◌+◌, ◌-◌, ◌<◌, ◌≤◌, Bool, true, false, ◌||◌, ℤ, List, length, slice_get, ◌⊎◌, inl, inr, Some, None, refl, sym, ap, ◌∙◌, subst, arith}
use Rattle.std.proofs.lemmas.Bool.{cases_lt, false≢true}
use Rattle.gr_word.specs.declared.operations.Cmp.{Cmp}
use Rattle.lt_isa.specs.declared.symbols.Note.{Note}
use Rattle.lt_isa.specs.declared.instructions.Instr.TheVariants.{Br}
use Rattle.lt_isa.specs.Prelude.{Parts}
use Rattle.trace_patterns.specs.Prelude.{Shown, TreeEvent, Known, start_known, is_secret, FitsClaim, SymState, at_entry, known_after, claimed_at, CrossesFrom, VisitedAt, Noted, Unnoted, ComesTo, Starts, FallsTo, JoinsAt, Accepts, without_notes, CarriesOver, JoinsIn}
use Rattle.trace_patterns.proofs.SymStateLaws.{sized-at_entry}
use Rattle.trace_patterns.proofs.Walks.{crosses-region}
use Rattle.note_infer.specs.Prelude.{PublicWay, Next, Skips, Branches, Jumps, Crosses, is_crossed, States, IsLast, with_notes, OpensTheSame, IsTarget, OfJump, OfBranch, StandAtTargets}
use Rattle.note_infer.proofs.Lower.{IsLower, lower-fits, fits-lower, lower-own, lower-then}
use Rattle.trace_patterns.proofs.Carries.{instr-once, offset_once}
use Rattle.note_infer.proofs.CarriedLower.{way-higher}
use Rattle.note_infer.proofs.Tight.{least-tight}
use Rattle.note_infer.proofs.RuledLower.{or_up}
use Rattle.note_infer.proofs.Ruled.{FallsBy, Plainly, PastBranch, falls-by, OpensBy, opens-by, start-full}
use Rattle.note_infer.proofs.Arms.{cross-carries}
use Rattle.note_infer.proofs.High.{in-code, never-both, Region, region-of, public-branch, KnownHigher, least-higher}
use Rattle.note_infer.proofs.Sources.{over-join, way-once}
use Rattle.note_infer.proofs.SameParts.{known_once, none_not}

-- b has the least notes, and is accepted with other notes
module _ (b : Parts) (notes : List Note) (accepts : Accepts (with_notes b notes)) (crossed : List ℕ) (states : States)
    (last : IsLast (without_notes b) crossed states) (same : OpensTheSame (with_notes b notes) crossed states)
    (some : 0 < length b.code) (stand : StandAtTargets (without_notes b) crossed states b.notes) where
  -- there is a note at the target of a jump, with what is known there
  pub record Told (q : ℕ) : Type 0 where
    pub known : Known
    pub at : states q ≡ Some known
    pub claimed : claimed_at b q ≡ Some known

  pub target-told : (q : ℕ) → IsTarget (without_notes b) crossed states q → Told q
  target-told q (OfJump p q' k offset at code to inside) =
      let h = last.least.closed.ways p q k k at (Jumps p k q k offset code to inside refl) in
      record { known = h.known; at = h.is; claimed = stand.has q h.known (OfJump p q k offset at code to inside) h.is }
  target-told q (OfBranch p q' k cmp ra rb offset at code apart to inside) =
      let h = last.least.closed.ways p q k k at (Branches p k q k cmp ra rb offset code apart to inside refl) in
      record {
        known = h.known;
        at = h.is;
        claimed = stand.has q h.known (OfBranch p q k cmp ra rb offset at code apart to inside) h.is;
      }

  pub noted-states : (q : ℕ) (c : Known) → claimed_at b q ≡ Some c → states q ≡ Some c
  noted-states q c e =
      let t = target-told q (stand.only q c e) in
      t.at ∙ ap Some (known_once t.known c (sym t.claimed ∙ e))

  pub higher : (p : ℕ) (m : Known) → states p ≡ Some m
      → KnownHigher (with_notes b notes) accepts crossed states last same some p m
  higher = least-higher (with_notes b notes) accepts crossed states last same some

  -- a branch that is reached and crossed, and its region under the other notes
  pub record Outer (p : ℕ) (m : Known) : Type 0 where
    pub known : Known
    pub lower : IsLower m known
    pub offset : ℤ
    pub region : Region (with_notes b notes) accepts p known offset

  pub outer : (p : ℕ) (m : Known) → states p ≡ Some m → is_crossed crossed p ≡ true → p < length b.code → Outer p m
  outer p m at among inside =
      let h = higher p m at in
      let r = region-of (with_notes b notes) accepts crossed states last same some p m h.known at among inside
      h.visited in
      record { known = h.known; lower = h.lower; offset = r.0; region = r.1 }

  pub ends : (p : ℕ) (m : Known) (r : Outer p m) → (p + 1 < r.region.join) × (r.region.join < length b.code)
  ends p m r =
      let g = (crosses-region (with_notes b notes) 0 (length b.code - 1) p r.offset (at_entry r.known) r.region.pattern
      r.region.join r.region.state r.region.crosses).1 in
      (omega (arith, g.first, g.second), g.in_code)

  -- the places inside aren't reached
  pub inner-unreached : (p : ℕ) (m : Known) (r : Outer p m) (q : ℕ) (k : Known) → p < q → q < r.region.join
      → states q ≡ Some k → ⊥
  inner-unreached p m r q k behind before at =
      let h = higher q k at in
      never-both (with_notes b notes) accepts q h.known (omega (arith, before, (ends p m r).1)) h.visited (record {
        branch = p;
        known = r.known;
        offset = r.offset;
        pattern = r.region.pattern;
        join = r.region.join;
        state = r.region.state;
        visited = r.region.visited;
        opens = r.region.opens;
        crosses = r.region.crosses;
        behind = behind;
        before = before;
      })

  -- the join of the region is that of each way over it
  pub joins_there : (p : ℕ) (m : Known) (r : Outer p m) (cmp : Cmp) (ra rb : ℕ) (offset : ℤ) (k : Known) (q : ℕ)
      (next : Known)
      → slice_get b.code p ≡ Some (Br cmp ra rb offset) → JoinsIn (without_notes b) p offset k q next
      → r.region.join ≡ q
  joins_there p m r cmp ra rb offset k q next at joins =
      let e = offset_once r.region.by.cmp cmp r.region.by.ra r.region.by.rb ra rb r.offset offset
      (instr-once b p _ _ r.region.by.at at) in
      let over = cross-carries (with_notes b notes) 0 (length b.code - 1) p r.offset (at_entry r.known) r.region.pattern
      r.region.join r.region.state r.region.crosses (sized-at_entry r.known) in
      over-join (without_notes b) 0 (length b.code - 1) p offset (at_entry r.known) (at_entry k) r.region.join q
      r.region.state joins.state
      (subst (λ (z : ℤ). CarriesOver (without_notes b) 0 (length b.code - 1) p z (at_entry r.known) r.region.join
      r.region.state) e over) joins.over

  -- a way to a place that no jump leads to comes from before it, and no place between is reached
  pub record FromBefore (q x : ℕ) : Type 0 where
    pub before : q < x
    pub clear : (y : ℕ) (k : Known) → q < y → y < x → states y ≡ Some k → ⊥

  pub from-before : (q x : ℕ) (k next : Known) → states q ≡ Some k → PublicWay (without_notes b) crossed q k x next
      → IsTarget (without_notes b) crossed states x ⊎ FromBefore q x
  from-before q x k next at (Next p' k' q' n' i code goes to inside is) =
      inr (record { before = omega arith; clear = λ y m lt gt e. absurd (omega arith) })
  from-before q x k next at (Skips p' k' q' n' cmp ra rb offset code apart to inside is) =
      inr (record { before = omega arith; clear = λ y m lt gt e. absurd (omega arith) })
  from-before q x k next at (Branches p' k' q' n' cmp ra rb offset code apart to inside is) =
      inl (OfBranch q x k cmp ra rb offset at code apart to inside)
  from-before q x k next at (Jumps p' k' q' n' offset code to inside is) = inl (OfJump q x k offset at code to inside)
  from-before q x k next at (Crosses p' k' q' n' cmp ra rb offset code among joins) =
      let r = outer q k at among (in-code b q _ code) in
      let e = joins_there q k r cmp ra rb offset k x next code joins in
      inr (record {
        before = omega (arith, e, (ends q k r).0);
        clear = λ y m lt gt there. inner-unreached q k r y m lt (omega (arith, e)) there;
      })

  -- what is known at a visited place is the same as in the least states, and the state on entry to it is at most that;
  -- it is exactly that if there is no note
  pub record Standing (p : ℕ) (k : Known) : Type 0 where
    pub known : Known
    pub at : states p ≡ Some known
    pub lower : IsLower k known
    pub higher : IsLower known k

  pub record Arriving (p : ℕ) (k : Known) : Type 0 where
    pub known : Known
    pub at : states p ≡ Some known
    pub lower : IsLower k known
    pub tight : claimed_at b p ≡ None → IsLower known k

  pub no_target : {A : Type 0} (x : ℕ) → claimed_at b x ≡ None → IsTarget (without_notes b) crossed states x → A
  no_target x none t = let told = target-told x t in none_not told.known (sym none ∙ told.claimed)

  arrives : (q x : ℕ) (k next : Known) → Standing q k → PublicWay (without_notes b) crossed q k x next → Arriving x next
  arrives q x k next s way =
      let up = way-higher (without_notes b) crossed q k x next s.known way s.lower in
      let to = last.least.closed.ways q x s.known up.known s.at up.way in
      let full = last.least.closed.full x to.known to.is in
      let lower = lower-then next up.known to.known up.higher
      (fits-lower up.known to.known up.higher.high_full full to.above) in
      record {
        known = to.known;
        at = to.is;
        lower = lower;
        tight = λ none. tight_at up.known up.way to.known to.is
            lower none;
      }
    where
      -- every way there comes from this place
      one_source : (n : Known) → PublicWay (without_notes b) crossed q s.known x n → claimed_at b x ≡ None → (r : ℕ)
          (j m : Known)
          → states r ≡ Some j → PublicWay (without_notes b) crossed r j x m → r ≡ q
      one_source n mine none r j m at other =
          by (from-before q x s.known n s.at mine) (from-before r x j m at other) (cases_lt r q) (cases_lt q r)
        where
          by : IsTarget (without_notes b) crossed states x ⊎ FromBefore q x
              → IsTarget (without_notes b) crossed states x ⊎ FromBefore r x → (r < q) ⊎ (q ≤ r) → (q < r) ⊎ (r ≤ q)
              → r ≡ q
          by (inl t) f c d = no_target x none t
          by (inr f) (inl t) c d = no_target x none t
          by (inr f) (inr g) (inl lt) d = absurd (g.clear q s.known lt f.before s.at)
          by (inr f) (inr g) (inr le) (inl lt) = absurd (f.clear r j lt g.before at)
          by (inr f) (inr g) (inr le) (inr ge) = omega arith

      at_start : (n : Known) → PublicWay (without_notes b) crossed q s.known x n → claimed_at b x ≡ None → x ≡ 0 → ⊥
      at_start n mine none e = by (from-before q x s.known n s.at mine)
        where
          by : IsTarget (without_notes b) crossed states x ⊎ FromBefore q x → ⊥
          by (inl t) = no_target x none t
          by (inr f) = let lt = f.before in omega arith

      -- what they bring is what this one brings
      brought : (j m : Known) → states q ≡ Some j → PublicWay (without_notes b) crossed q j x m → FitsClaim m next
      brought j m at other =
          let e : j ≡ s.known = known_once j s.known (sym at ∙ s.at) in
          let from : PublicWay (without_notes b) crossed q s.known x m =
          subst (λ (v : Known). PublicWay (without_notes b) crossed q v x m) e other in
          let up = way-higher (without_notes b) crossed q s.known x m k from s.higher in
          subst (FitsClaim m) (way-once (without_notes b) crossed q k x up.known next up.way way)
          (lower-fits m up.known up.higher)

      tight_at : (n : Known) → PublicWay (without_notes b) crossed q s.known x n → (m : Known) → states x ≡ Some m
          → IsLower next m → claimed_at b x ≡ None → IsLower m next
      tight_at n mine m is lower none =
          least-tight (without_notes b) crossed states last.least x m next is lower
          (λ e. absurd (at_start n mine none e))
          (λ r j v at other.
          let e = one_source n mine none r j v at other in
          brought j v (subst (λ (y : ℕ). states y ≡ Some j) e at)
          (subst (λ (y : ℕ). PublicWay (without_notes b) crossed y j x v) e other))

  starts : Arriving 0 start_known
  starts =
      let h = last.least.closed.start in
      let lower = fits-lower start_known h.known start-full (last.least.closed.full 0 h.known h.is) h.above in
      record {
        known = h.known;
        at = h.is;
        lower = lower;
        tight = λ none. least-tight (without_notes b) crossed states last.least 0 h.known start_known h.is lower
            (λ e. lower-fits start_known start_known (lower-own start_known start-full))
            (λ q k next at way. by q k next none (from-before q 0 k next at way));
      }
    where
      by : (q : ℕ) (k next : Known) → claimed_at b 0 ≡ None
          → IsTarget (without_notes b) crossed states 0 ⊎ FromBefore q 0 → FitsClaim next start_known
      by q k next none (inl t) = no_target 0 none t
      by q k next none (inr f) = let lt = f.before in absurd (omega arith)

  -- a branch that is visited is crossed where a register is secret, and only there
  pub secret-crossed : (p : ℕ) (k : Known) (cmp : Cmp) (ra rb : ℕ) (offset : ℤ) → Standing p k
      → slice_get b.code p ≡ Some (Br cmp ra rb offset) → (is_secret k ra || is_secret k rb) ≡ true
      → is_crossed crossed p ≡ true
  secret-crossed p k cmp ra rb offset s at secret = by (is_crossed crossed p) refl
    where
      by : (c : Bool) → is_crossed crossed p ≡ c → c ≡ true
      by true e = refl
      by false e =
          let h = higher p s.known s.at in
          let up = lower-then k s.known h.known s.lower h.lower in
          let g = public-branch (with_notes b notes) accepts crossed states last same some p h.known cmp ra rb offset
          at e
          h.visited in
          absurd (false≢true (sym g.public ∙ or_up _ _ _ _ (up.labels ra) (up.labels rb) secret))

  pub crossed-secret : (p : ℕ) (k : Known) (cmp : Cmp) (ra rb : ℕ) (offset : ℤ) → Standing p k
      → slice_get b.code p ≡ Some (Br cmp ra rb offset) → is_crossed crossed p ≡ true
      → (is_secret k ra || is_secret k rb) ≡ true
  crossed-secret p k cmp ra rb offset s at among =
      or_up _ _ _ _ (s.higher.labels ra) (s.higher.labels rb) (same.secret p s.known cmp ra rb offset s.at among at)

  falls_way : (p : ℕ) (k next : Known) → Standing p k → p + 1 < length b.code → FallsBy b p k next
      → PublicWay (without_notes b) crossed p k (p + 1) next
  falls_way p k next s inside (Plainly i at goes is) = Next p k (p + 1) next i at goes refl inside is
  falls_way p k next s inside (PastBranch cmp ra rb offset at is public) = by (is_crossed crossed p) refl
    where
      by : (c : Bool) → is_crossed crossed p ≡ c → PublicWay (without_notes b) crossed p k (p + 1) next
      by false e = Skips p k (p + 1) next cmp ra rb offset at e refl inside is
      by true e = absurd (false≢true (sym public ∙ crossed-secret p k cmp ra rb offset s at e))

  join_way : (p : ℕ) (k : Known) (offset : ℤ) (pattern : Shown TreeEvent) (join : ℕ) (state : SymState) → Standing p k
      → OpensBy b p k offset → CrossesFrom b p offset k pattern join state
      → PublicWay (without_notes b) crossed p k join (known_after state)
  join_way p k offset pattern join state s o crosses =
      Crosses p k join (known_after state) o.cmp o.ra o.rb offset o.at
      (secret-crossed p k o.cmp o.ra o.rb offset s o.at o.secret)
      (record {
        state = state;
        over = cross-carries b 0 (length b.code - 1) p offset (at_entry k) pattern join state crosses
            (sized-at_entry k);
        next_is = refl;
      })

  mutual
    pub visited-stands : (p : ℕ) (k : Known) → VisitedAt b p k → p < length b.code → Standing p k
    visited-stands p k (Noted q c at) inside =
        let is = noted-states p k at in
        let own = lower-own k (last.least.closed.full p k is) in
        record { known = k; at = is; lower = own; higher = own }
    visited-stands p k (Unnoted q c none comes) inside =
        let h = comes-arrives p k comes inside in
        record { known = h.known; at = h.at; lower = h.lower; higher = h.tight none }

    pub comes-arrives : (p : ℕ) (k : Known) → ComesTo b p k → p < length b.code → Arriving p k
    comes-arrives p k Starts inside = starts
    comes-arrives p k (FallsTo q known next visited falls) inside =
        let s = visited-stands q known visited (omega arith) in
        arrives q (q + 1) known k s (falls_way q known k s inside (falls-by b q known k falls))
    comes-arrives p k (JoinsAt q known offset pattern join state visited opens crosses) inside =
        let g = (crosses-region b 0 (length b.code - 1) q offset (at_entry known) pattern join state crosses).1 in
        let s = visited-stands q known visited (omega (arith, g.first, g.second)) in
        arrives q join known (known_after state) s
        (join_way q known offset pattern join state s (opens-by b q known offset opens) crosses)
