-- The least notes are accepted where some notes are that open the same regions.
use Rattle.std.proofs.Common.{◌≡◌, ℕ, zero, suc, ◌+◌, ◌-◌, ◌<◌, ◌≤◌, Bool, true, false, ◌||◌, ℤ, List, length, slice_get, ◌⊎◌, inl, inr, Option, Some, None, refl, sym, ap, ◌∙◌, subst, ⊎_elim, arith, add-one}
use Rattle.std.proofs.lemmas.Option.{slice_get_cases, slice_get_past}
use Rattle.std.proofs.lemmas.Bool.{cases_lt, true≢false, false≢true}
use Rattle.gr_word.specs.declared.operations.Cmp.{Cmp}
use Rattle.lt_isa.specs.declared.symbols.Note.{Note}
use Rattle.lt_isa.specs.declared.instructions.Instr.{Instr}
use Rattle.lt_isa.specs.declared.instructions.Instr.TheVariants.{Halt, Jmp, Br}
use Rattle.lt_isa.specs.Prelude.{Parts, target_of}
use Rattle.trace_patterns.specs.declared.reasons.Reason.{Reason}
use Rattle.trace_patterns.specs.Prelude.{Shown, TreeEvent, Known, start_known, is_secret, FitsClaim, SymState, at_entry, known_after, Ruling, Refused, Falls, Leaves, Opens, claimed_at, jumped, ruling_at, ruling_of, ruling_if, CrossesFrom, VisitedAt, Noted, Unnoted, ComesTo, Starts, FallsTo, JoinsAt, IsVisited, LiesInside, Accepts, RegionIsCrossed, only_goes_on, known_behind, without_notes}
use Rattle.trace_patterns.proofs.SymStateLaws.{sized-at_entry}
use Rattle.note_infer.specs.Prelude.{LeadsTo, IsReachable, AllReachable, AtStart, Behind, PublicWay, Next, Skips, Branches, Jumps, Crosses, is_crossed, States, IsAtLeast, IsLast, with_notes, OpensTheSame, IsTarget, OfJump, OfBranch, StandAtTargets, LeastAreAccepted}
use Rattle.note_infer.proofs.Lower.{lower-fits, lower-then, entry-below}
use Rattle.trace_patterns.proofs.Carries.{instr-once, offset_once}
use Rattle.note_infer.proofs.CarriedLower.{way-any}
use Rattle.note_infer.proofs.Tight.{fits-then, least-led_to}
use Rattle.note_infer.proofs.RuledLower.{ruling-some, plain-again, refused_not_falls, refused_not_opens, leaves_not_falls}
use Rattle.note_infer.proofs.Ruled.{br-ruled, jmp-ruled, jumped-fits, FallsBy, Plainly, PastBranch, falls-by, OpensBy, opens-by}
use Rattle.note_infer.proofs.ArmAgain.{quiet_of, crosses-again}
use Rattle.note_infer.proofs.Arms.{cross-carries, cross-stays}
use Rattle.note_infer.proofs.High.{in-code, public-branch, plain-falls, jump-goes, KnownHigher}
use Rattle.note_infer.proofs.Sources.{leads-renoted}
use Rattle.note_infer.proofs.Standing.{joins_there, no_target, target-told, noted-states, higher, Outer, outer, ends, inner-unreached, FromBefore, from-before, Standing, Arriving, secret-crossed, crossed-secret, visited-stands, comes-arrives}
use Rattle.note_infer.proofs.SameParts.{known_once}
use Rattle.note_infer.specs.Steps as step

module _ (b : Parts) (notes : List Note) (accepts : Accepts (with_notes b notes)) (crossed : List ℕ) (states : States)
    (last : IsLast (without_notes b) crossed states) (same : OpensTheSame (with_notes b notes) crossed states)
    (some : 0 < length b.code) (stand : StandAtTargets (without_notes b) crossed states b.notes) where
  -- the facts about this object, by short names
  Stands : ℕ → Known → Type 0
  Stands p k = Standing b notes accepts crossed states last same some stand p k

  known_at : (p : ℕ) (m : Known) → states p ≡ Some m
      → KnownHigher (with_notes b notes) accepts crossed states last same some p m
  known_at = higher b notes accepts crossed states last same some stand

  -- a region is crossed again under the least notes
  again : (p : ℕ) (k : Known) → Stands p k → (s : is_crossed crossed p ≡ true) → p < length b.code
      → (offset : ℤ) × (pattern : Shown TreeEvent) × (join : ℕ) × (state : SymState) × OpensBy b p k offset
      × CrossesFrom b p offset k pattern join state
  unfolding Stands
  again p k s among inside =
      let r = outer b notes accepts crossed states last same some stand p s.known s.at among inside in
      let low = lower-then k s.known r.known s.lower r.lower in
      let c = crosses-again (with_notes b notes) b.notes 0 (length b.code - 1) p r.offset (at_entry r.known)
      r.region.pattern r.region.join r.region.state (at_entry k) r.region.crosses (entry-below k r.known low)
      (quiet_of b p r.region.join (λ q after before. quiet p s.known r q after before (claimed_at b q) refl)) in
      let o = r.region.by in (
        r.offset,
        r.region.pattern,
        r.region.join,
        c.state,
        record {
          cmp = o.cmp;
          ra = o.ra;
          rb = o.rb;
          at = o.at;
          secret = crossed-secret b notes accepts crossed states last same some stand p k o.cmp o.ra o.rb r.offset s
              o.at among;
        },
        c.crosses,
      )
    where
      quiet : (p : ℕ) (m : Known) (r : Outer b notes accepts crossed states last same some stand p m) (q : ℕ) → p < q
          → q < r.region.join → (c : Option Known) → claimed_at b q ≡ c → c ≡ None
      quiet p m r q after before None e = refl
      quiet p m r q after before (Some c) e =
          absurd (inner-unreached b notes accepts crossed states last same some stand p m r q c after before
          (noted-states b notes accepts crossed states last same some stand q c e))

  -- a branch that is crossed opens its region
  opens_again : (p : ℕ) (k : Known) (offset : ℤ) → OpensBy b p k offset → ruling_at b p k ≡ Opens offset
  opens_again p k offset o =
      ruling-some b p k (Br o.cmp o.ra o.rb offset) o.at ∙ br-ruled b p k o.cmp o.ra o.rb offset true o.secret

  -- a jump is allowed
  jump_allowed : (p q : ℕ) (k : Known) (next : Ruling) → Stands p k → q < length b.code
      → IsTarget (without_notes b) crossed states q
      → ((m : Known) → states p ≡ Some m → IsAtLeast states q m) → jumped b q k next ≡ next
  unfolding Stands
  jump_allowed p q k next s inside target brings =
      let t = target-told b notes accepts crossed states last same some stand q target in
      let h = brings s.known s.at in
      let e : Option Known = Some t.known in
      jumped-fits b q k t.known next inside t.claimed
      (fits-then k s.known t.known (lower-fits k s.known s.lower)
      (subst (FitsClaim s.known) (known_once h.known t.known (sym h.is ∙ t.at)) h.above))

  -- what is ruled of an instruction at a place that is visited
  plain_ruled : (p : ℕ) (k : Known) (i : Instr) → Stands p k → slice_get b.code p ≡ Some i → only_goes_on i ≡ true
      → ruling_at b p k ≡ Falls (known_behind k i)
  unfolding Stands
  plain_ruled p k i s at goes =
      let h = known_at p s.known s.at in
      let up = lower-then k s.known h.known s.lower h.lower in
      let e = plain-falls (with_notes b notes) accepts crossed states last same some p h.known i at goes h.visited in
      ruling-some b p k i at
      ∙ plain-again (with_notes b notes) b p k h.known (known_behind h.known i) i goes up
      (sym (ruling-some (with_notes b notes) p h.known i at) ∙ e)

  branch_ruled : (p : ℕ) (k : Known) (cmp : Cmp) (ra rb : ℕ) (offset : ℤ) → Stands p k
      → slice_get b.code p ≡ Some (Br cmp ra rb offset) → is_crossed crossed p ≡ false → ruling_at b p k ≡ Falls k
  unfolding Stands
  branch_ruled p k cmp ra rb offset s at apart =
      let h = known_at p s.known s.at in
      let g = public-branch (with_notes b notes) accepts crossed states last same some p h.known cmp ra rb offset at
      apart
      h.visited in
      let q = target_of b p offset in
      let target : IsTarget (without_notes b) crossed states q =
      OfBranch p q s.known cmp ra rb offset s.at at apart refl g.jumped.inside in
      ruling-some b p k (Br cmp ra rb offset) at
      ∙ br-ruled b p k cmp ra rb offset false (public (is_secret k ra || is_secret k rb) refl)
      ∙ jump_allowed p q k (Falls k) s g.jumped.inside target
      (λ m is. last.least.closed.ways p q m m is
      (Branches p m q m cmp ra rb offset at apart refl g.jumped.inside refl))
    where
      public : (x : Bool) → (is_secret k ra || is_secret k rb) ≡ x → x ≡ false
      public false e = refl
      public true e = absurd (true≢false
          (sym (secret-crossed b notes accepts crossed states last same some stand p k cmp ra rb offset s at e) ∙
          apart))

  jmp_ruled : (p : ℕ) (k : Known) (offset : ℤ) → Stands p k → slice_get b.code p ≡ Some (Jmp offset)
      → ruling_at b p k ≡ Leaves
  unfolding Stands
  jmp_ruled p k offset s at =
      let h = known_at p s.known s.at in
      let g = jump-goes (with_notes b notes) accepts crossed states last same some p h.known offset at h.visited in
      let q = target_of b p offset in
      let target : IsTarget (without_notes b) crossed states q = OfJump p q s.known offset s.at at refl g.inside in
      ruling-some b p k (Jmp offset) at ∙ jmp-ruled b p k offset
      ∙ jump_allowed p q k Leaves s g.inside target
      (λ m is. last.least.closed.ways p q m m is (Jumps p m q m offset at refl g.inside refl))

  -- no place that is visited is refused
  RuledWell : ℕ → Known → Type 0
  RuledWell p k = (reason : Reason) → ¬ (ruling_at b p k ≡ Refused reason)

  leaves_well : (p : ℕ) (k : Known) → ruling_at b p k ≡ Leaves → RuledWell p k
  unfolding RuledWell
  leaves_well p k e = λ reason f. let g : ◌≡◌ {A = Ruling} Leaves (Refused reason) = sym e ∙ f in absurd cc

  falls_well : (p : ℕ) (k next : Known) → ruling_at b p k ≡ Falls next → RuledWell p k
  unfolding RuledWell
  falls_well p k next e = λ reason f. refused_not_falls reason next (sym f ∙ e)

  opens_well : (p : ℕ) (k : Known) (offset : ℤ) → ruling_at b p k ≡ Opens offset → RuledWell p k
  unfolding RuledWell
  opens_well p k offset e = λ reason f. refused_not_opens reason offset (sym f ∙ e)

  halt_ruled : (p : ℕ) (k : Known) → slice_get b.code p ≡ Some Halt → ruling_at b p k ≡ Leaves
  unfolding ruling_of
  halt_ruled p k at = ruling-some b p k Halt at

  instr_well : (p : ℕ) (k : Known) (i : Instr) → Stands p k → slice_get b.code p ≡ Some i → RuledWell p k
  instr_well p k Halt s at = leaves_well p k (halt_ruled p k at)
  instr_well p k (Jmp offset) s at = leaves_well p k (jmp_ruled p k offset s at)
  instr_well p k (Br cmp ra rb offset) s at = by (is_crossed crossed p) refl
    where
      by : (c : Bool) → is_crossed crossed p ≡ c → RuledWell p k
      by false e = falls_well p k k (branch_ruled p k cmp ra rb offset s at e)
      by true e =
          let a = again p k s e (in-code b p _ at) in
          opens_well p k a.0 (opens_again p k a.0 a.4)
  instr_well p k i s at = falls_well p k (known_behind k i) (plain_ruled p k i s at refl)

  -- a place of the code that is reachable is reached by the ways, or is in a region of one that is
  record IsInside (p : ℕ) : Type 0 where
    branch : ℕ
    known : Known
    at : states branch ≡ Some known
    among : is_crossed crossed branch ≡ true
    region : Outer b notes accepts crossed states last same some stand branch known
    behind : branch < p
    before : p < region.region.join

  Reached : ℕ → Type 0
  Reached p = ((m : Known) × (states p ≡ Some m)) ⊎ IsInside p

  -- the join of a region is reached
  join_reached : (p : ℕ) (m : Known) → states p ≡ Some m → is_crossed crossed p ≡ true
      → (r : Outer b notes accepts crossed states last same some stand p m)
      → (n : Known) × (states r.region.join ≡ Some n)
  join_reached p m at among r =
      let o = r.region.by in
      let over = cross-carries (with_notes b notes) 0 (length b.code - 1) p r.offset (at_entry r.known) r.region.pattern
      r.region.join r.region.state r.region.crosses (sized-at_entry r.known) in
      let way : PublicWay (without_notes b) crossed p r.known r.region.join (known_after r.region.state) =
      Crosses p r.known r.region.join (known_after r.region.state) o.cmp o.ra o.rb r.offset o.at among
      (record { state = r.region.state; over = over; next_is = refl }) in
      let other = way-any (without_notes b) crossed p r.known r.region.join (known_after r.region.state) m way in
      let h = last.least.closed.ways p r.region.join m other.known at other.way in
      (h.known, h.is)

  from_region : (p : ℕ) (m : Known) → states p ≡ Some m → is_crossed crossed p ≡ true
      → (r : Outer b notes accepts crossed states last same some stand p m) → (x y : ℕ) → p ≤ x → x < r.region.join
      → LeadsTo b x y → Reached y
  unfolding Reached
  from_region p m at among r x y from inside leads =
      let o = r.region.by in
      let to = cross-stays (with_notes b notes) 0 (length b.code - 1) p r.offset (at_entry r.known) r.region.pattern
      r.region.join r.region.state o.cmp o.ra o.rb o.at r.region.crosses x y from inside
      (leads-renoted b notes x y leads) in
      ⊎_elim
      (λ (lt : y < r.region.join). inr (record {
        branch = p;
        known = m;
        at = at;
        among = among;
        region = r;
        behind = omega (arith, to.0);
        before = lt;
      }))
      (λ (le : r.region.join ≤ y).
      let e : r.region.join ≡ y = omega (arith, to.1) in
      let h = join_reached p m at among r in
      inl (h.0, subst (λ (q : ℕ). states q ≡ Some h.0) e h.1))
      (cases_lt y r.region.join)

  by_way : (p y : ℕ) (m next : Known) → states p ≡ Some m → PublicWay (without_notes b) crossed p m y next → Reached y
  unfolding Reached
  by_way p y m next at way = let h = last.least.closed.ways p y m next at way in inl (h.known, h.is)

  from_branch : (p y : ℕ) (m : Known) (cmp : Cmp) (ra rb : ℕ) (offset : ℤ) → states p ≡ Some m
      → slice_get b.code p ≡ Some (Br cmp ra rb offset) → LeadsTo b p y
      → (is_crossed crossed p ≡ false → PublicWay (without_notes b) crossed p m y m) → Reached y
  from_branch p y m cmp ra rb offset at code leads apart = by (is_crossed crossed p) refl
    where
      by : (c : Bool) → is_crossed crossed p ≡ c → Reached y
      by false e = by_way p y m m at (apart e)
      by true e =
          let r = outer b notes accepts crossed states last same some stand p m at e (in-code b p _ code) in
          from_region p m at e r p y (omega arith)
          (omega (arith, (ends b notes accepts crossed states last same some stand p m r).0)) leads

  from_reached : (p y : ℕ) (m : Known) → states p ≡ Some m → LeadsTo b p y → Reached y
  from_reached p y m at (step.Onward p' q' i code goes to inside) =
      by_way p y m (known_behind m i) at (Next p m y (known_behind m i) i code goes to inside refl)
  from_reached p y m at (step.Past p' q' cmp ra rb offset code to inside) =
      from_branch p y m cmp ra rb offset at code (step.Past p y cmp ra rb offset code to inside)
      (λ e. Skips p m y m cmp ra rb offset code e to inside refl)
  from_reached p y m at (step.Branched p' q' cmp ra rb offset code to inside) =
      from_branch p y m cmp ra rb offset at code (step.Branched p y cmp ra rb offset code to inside)
      (λ e. Branches p m y m cmp ra rb offset code e to inside refl)
  from_reached p y m at (step.Jumped p' q' offset code to inside) =
      by_way p y m m at (Jumps p m y m offset code to inside refl)

  goes_on : (p q : ℕ) → Reached p → LeadsTo b p q → Reached q
  unfolding Reached
  goes_on p q (inl m) leads = from_reached p q m.0 m.1 leads
  goes_on p q (inr w) leads = from_region w.branch w.known w.at w.among w.region p q (omega
      (arith, w.behind)) w.before leads

  reached : (p : ℕ) → IsReachable b p → Reached p
  unfolding Reached
  reached p AtStart = inl (last.least.closed.start.known, last.least.closed.start.is)
  reached p (Behind q p' before leads) = goes_on q p (reached q before) leads

  -- a place that the ways reach is visited
  visits : (p : ℕ) (k : Known) → ComesTo b p k → IsVisited b p
  visits p k comes = by (claimed_at b p) refl
    where
      by : (c : Option Known) → claimed_at b p ≡ c → IsVisited b p
      by None e = (k, Unnoted p k e comes)
      by (Some c) e = (c, Noted p c e)

  stands : (p : ℕ) (k : Known) → VisitedAt b p k → p < length b.code → Stands p k
  unfolding Stands
  stands p k visited inside = visited-stands b notes accepts crossed states last same some stand p k visited inside

  -- the join of a region is the same under both notes
  same_join : (p : ℕ) (m : Known) (r : Outer b notes accepts crossed states last same some stand p m) (k : Known)
      (offset : ℤ) (pattern : Shown TreeEvent) (join : ℕ) (state : SymState) → OpensBy b p k offset
      → CrossesFrom b p offset k pattern join state → r.region.join ≡ join
  same_join p m r k offset pattern join state o crosses =
      joins_there b notes accepts crossed states last same some stand p m r o.cmp o.ra o.rb offset k join
      (known_after state) o.at (record {
        state = state;
        over = cross-carries b 0 (length b.code - 1) p offset (at_entry k) pattern join state crosses
            (sized-at_entry k);
        next_is = refl;
      })

  -- it is visited where its branch is
  join_visited : (p : ℕ) (m : Known) → is_crossed crossed p ≡ true → p < length b.code
      → (r : Outer b notes accepts crossed states last same some stand p m) → IsVisited b p → IsVisited b r.region.join
  join_visited p m among inside r v =
      let s = stands p v.0 v.1 inside in
      let a = again p v.0 s among inside in
      subst (IsVisited b) (sym (same_join p m r v.0 a.0 a.1 a.2 a.3 a.4 a.5))
      (visits a.2 (known_after a.3) (JoinsAt p v.0 a.0 a.1 a.2 a.3 v.1 (opens_again p v.0 a.0 a.4) a.5))

  halt_way : {A : Type 0} (q x : ℕ) (k next : Known) → slice_get b.code q ≡ Some Halt
      → PublicWay (without_notes b) crossed q k x next → A
  halt_way q x k next at (Next p' k' q' n' i code goes to inside is) =
      absurd (false≢true (ap only_goes_on (instr-once b q Halt i at code) ∙ goes))
  halt_way q x k next at (Skips p' k' q' n' cmp ra rb offset code apart to inside is) =
      absurd (let f = instr-once b q Halt (Br cmp ra rb offset) at code in cc)
  halt_way q x k next at (Branches p' k' q' n' cmp ra rb offset code apart to inside is) =
      absurd (let f = instr-once b q Halt (Br cmp ra rb offset) at code in cc)
  halt_way q x k next at (Jumps p' k' q' n' offset code to inside is) =
      absurd (let f = instr-once b q Halt (Jmp offset) at code in cc)
  halt_way q x k next at (Crosses p' k' q' n' cmp ra rb offset code among joins) =
      absurd (let f = instr-once b q Halt (Br cmp ra rb offset) at code in cc)

  jmp_way : (q x : ℕ) (k next : Known) (by : ℤ) → slice_get b.code q ≡ Some (Jmp by) → states q ≡ Some k
      → PublicWay (without_notes b) crossed q k x next → IsTarget (without_notes b) crossed states x
  jmp_way q x k next by at is (Next p' k' q' n' i code goes to inside e) =
      absurd (false≢true (ap only_goes_on (instr-once b q (Jmp by) i at code) ∙ goes))
  jmp_way q x k next by at is (Skips p' k' q' n' cmp ra rb offset code apart to inside e) =
      absurd (let f = instr-once b q (Jmp by) (Br cmp ra rb offset) at code in cc)
  jmp_way q x k next by at is (Branches p' k' q' n' cmp ra rb offset code apart to inside e) =
      absurd (let f = instr-once b q (Jmp by) (Br cmp ra rb offset) at code in cc)
  jmp_way q x k next by at is (Jumps p' k' q' n' offset code to inside e) = OfJump q x k offset is code to inside
  jmp_way q x k next by at is (Crosses p' k' q' n' cmp ra rb offset code among joins) =
      absurd (let f = instr-once b q (Jmp by) (Br cmp ra rb offset) at code in cc)

  -- no place without a note is reached after one that leads only to targets
  dead_end : {A : Type 0} (q : ℕ) (j m : Known) → states q ≡ Some j → states (suc q) ≡ Some m
      → claimed_at b (suc q) ≡ None
      → ((k next : Known) → states q ≡ Some k → PublicWay (without_notes b) crossed q k (suc q) next
      → IsTarget (without_notes b) crossed states (suc q)) → A
  dead_end q j m before at none only =
      absurd (least-led_to (without_notes b) crossed states last.least (suc q) m at (λ e. omega arith)
      (λ r k next is way. by r k next is way
      (from-before b notes accepts crossed states last same some stand r (suc q) k next is way)))
    where
      target : IsTarget (without_notes b) crossed states (suc q) → ⊥
      target t = no_target b notes accepts crossed states last same some stand (suc q) none t

      by : (r : ℕ) (k next : Known) → states r ≡ Some k → PublicWay (without_notes b) crossed r k (suc q) next
          → IsTarget (without_notes b) crossed states (suc q)
          ⊎ FromBefore b notes accepts crossed states last same some stand r (suc q) → ⊥
      by r k next is way (inl t) = target t
      by r k next is way (inr f) =
          ⊎_elim (λ (lt : r < q). f.clear q j lt (omega arith) before)
          (λ (le : q ≤ r).
          let e : r ≡ q = omega (arith, f.before) in
          target (only k next (subst (λ (x : ℕ). states x ≡ Some k) e is)
          (subst (λ (x : ℕ). PublicWay (without_notes b) crossed x k (suc q) next) e way)))
          (cases_lt r q)

  behind_one : (q : ℕ) (k next : Known) → VisitedAt b q k → ruling_at b q k ≡ Falls next → IsVisited b (suc q)
  behind_one q k next visited falls = subst (IsVisited b) (add-one q) (visits (q + 1) next
      (FallsTo q k next visited falls))

  -- a place that is reached, after a place that is visited
  behind_visited : (q : ℕ) (j m k : Known) (i : Instr) → states q ≡ Some j → states (suc q) ≡ Some m
      → claimed_at b (suc q) ≡ None → VisitedAt b q k → q < length b.code → slice_get b.code q ≡ Some i
      → IsVisited b (suc q)
  behind_visited q j m k Halt before at none visited inside code =
      dead_end q j m before at none (λ n next is way. halt_way q (suc q) n next code way)
  behind_visited q j m k (Jmp offset) before at none visited inside code =
      dead_end q j m before at none (λ n next is way. jmp_way q (suc q) n next offset code is way)
  behind_visited q j m k (Br cmp ra rb offset) before at none visited inside code = by (is_crossed crossed q) refl
    where
      by : (c : Bool) → is_crossed crossed q ≡ c → IsVisited b (suc q)
      by false e = behind_one q k k visited (branch_ruled q k cmp ra rb offset (stands q k visited inside) code e)
      by true e =
          let r = outer b notes accepts crossed states last same some stand q j before e inside in
          absurd (inner-unreached b notes accepts crossed states last same some stand q j r (suc q) m (omega arith)
          (omega (arith, (ends b notes accepts crossed states last same some stand q j r).0)) at)
  behind_visited q j m k i before at none visited inside code =
      behind_one q k (known_behind k i) visited (plain_ruled q k i (stands q k visited inside) code refl)

  -- or at the end of a region
  behind_region : (q : ℕ) (m : Known) → states (suc q) ≡ Some m → (w : IsInside q) → IsVisited b w.branch
      → IsVisited b (suc q)
  behind_region q m at w v =
      let e = ends b notes accepts crossed states last same some stand w.branch w.known w.region in
      ⊎_elim
      (λ (lt : suc q < w.region.region.join).
      absurd (inner-unreached b notes accepts crossed states last same some stand w.branch w.known w.region (suc q) m
      (omega (arith, w.behind)) lt at))
      (λ (le : w.region.region.join ≤ suc q).
      let same_place : w.region.region.join ≡ suc q = omega (arith, w.before) in
      subst (IsVisited b) same_place
      (join_visited w.branch w.known w.among (omega (arith, w.behind, w.before, e.1)) w.region v))
      (cases_lt (suc q) w.region.region.join)

  instr_at : (q : ℕ) → q < length b.code → (i : Instr) × (slice_get b.code q ≡ Some i)
  instr_at q inside = by (slice_get_cases b.code q).1
    where
      by : ((x : Instr) × (q < length b.code) × (slice_get b.code q ≡ Some x)
          × (Rattle.std.proofs.Common.get_or b.code q x ≡ x))
          ⊎ ((length b.code ≤ q) × (slice_get b.code q ≡ None)) → (i : Instr) × (slice_get b.code q ≡ Some i)
      by (inl h) = (h.0, h.2)
      by (inr h) = let le = h.0 in absurd (omega arith)

  module _ (reachable : AllReachable b) where
    visited_by : (n p : ℕ) → p < n → (m : Known) → states p ≡ Some m → p < length b.code → IsVisited b p
    unfolding Reached
    visited_by zero p lt m at inside = absurd (omega arith)
    visited_by (suc n) zero lt m at inside = visits 0 start_known Starts
    visited_by (suc n) (suc q) lt m at inside =
        by (claimed_at b (suc q)) refl (reached q (reachable q (omega arith)))
        (λ x less k is within. visited_by n x less k is within)
      where
        by : (c : Option Known) → claimed_at b (suc q) ≡ c → ((k : Known) × (states q ≡ Some k)) ⊎ IsInside q
            → ((x : ℕ) → x < n → (k : Known) → states x ≡ Some k → x < length b.code → IsVisited b x)
            → IsVisited b (suc q)
        by (Some c) e r below = (c, Noted (suc q) c e)
        by None e (inl k) below =
            let v = below q (omega arith) k.0 k.1 (omega arith) in
            let i = instr_at q (omega arith) in
            behind_visited q k.0 m v.0 i.0 k.1 at e v.1 (omega arith) i.1
        by None e (inr w) below =
            behind_region q m at w (below w.branch (omega (arith, w.behind)) w.known w.at (omega (arith, w.behind)))

    visited_at : (p : ℕ) (m : Known) → states p ≡ Some m → p < length b.code → IsVisited b p
    visited_at p m at inside = visited_by (suc p) p (omega arith) m at inside

    covered_by : (p : ℕ) → p < length b.code → Reached p → IsVisited b p ⊎ LiesInside b p
    unfolding Reached
    covered_by p inside (inl m) = inl (visited_at p m.0 m.1 inside)
    covered_by p inside (inr w) =
        let v = visited_at w.branch w.known w.at (omega (arith, w.behind)) in
        let a = again w.branch v.0 (stands w.branch v.0 v.1 (omega (arith, w.behind))) w.among (omega
        (arith, w.behind)) in
        let e = same_join w.branch w.known w.region v.0 a.0 a.1 a.2 a.3 a.4 a.5 in
        inr (record {
          branch = w.branch;
          known = v.0;
          offset = a.0;
          pattern = a.1;
          join = a.2;
          state = a.3;
          visited = v.1;
          opens = opens_again w.branch v.0 a.0 a.4;
          crosses = a.5;
          behind = w.behind;
          before = omega (arith, e, w.before);
        })

    -- what is ruled of a place is ruled in the code, or it is left
    in_code_or : (p : ℕ) (k : Known) → (p < length b.code) ⊎ (ruling_at b p k ≡ Leaves)
    unfolding ruling_at
    in_code_or p k =
        ⊎_elim (λ (lt : p < length b.code). inl lt)
        (λ (le : length b.code ≤ p). inr (ap (ruling_if b p k) (slice_get_past b.code p le)))
        (cases_lt p (length b.code))

    allowed_at : (p : ℕ) (k : Known) (reason : Reason) → VisitedAt b p k → ¬ (ruling_at b p k ≡ Refused reason)
    unfolding RuledWell
    allowed_at p k reason visited e = by (in_code_or p k)
      where
        by : (p < length b.code) ⊎ (ruling_at b p k ≡ Leaves) → ⊥
        by (inl lt) = let i = instr_at p lt in instr_well p k i.0 (stands p k visited lt) i.1 reason e
        by (inr leaves) = leaves_well p k leaves reason e

    follows : (p : ℕ) (k next : Known) → Stands p k → FallsBy b p k next → p + 1 < length b.code
    unfolding Stands
    follows p k next s (Plainly i at goes is) =
        let h = known_at p s.known s.at in
        accepts.followed p h.known (known_behind h.known i) h.visited
        (plain-falls (with_notes b notes) accepts crossed states last same some p h.known i at goes h.visited)
    follows p k next s (PastBranch cmp ra rb offset at is public) = by (is_crossed crossed p) refl
      where
        by : (c : Bool) → is_crossed crossed p ≡ c → p + 1 < length b.code
        by true e = absurd (false≢true (sym public
            ∙ crossed-secret b notes accepts crossed states last same some stand p k cmp ra rb offset s at e))
        by false e =
            let h = known_at p s.known s.at in
            accepts.followed p h.known h.known h.visited
            (public-branch (with_notes b notes) accepts crossed states last same some p h.known cmp ra rb offset at e
            h.visited).falls

    followed_at : (p : ℕ) (k next : Known) → VisitedAt b p k → ruling_at b p k ≡ Falls next → p + 1 < length b.code
    followed_at p k next visited e = by (in_code_or p k)
      where
        by : (p < length b.code) ⊎ (ruling_at b p k ≡ Leaves) → p + 1 < length b.code
        by (inl lt) = follows p k next (stands p k visited lt) (falls-by b p k next e)
        by (inr leaves) = leaves_not_falls next (sym leaves ∙ e)

    crossed_at : (p : ℕ) (k : Known) (offset : ℤ) → VisitedAt b p k → ruling_at b p k ≡ Opens offset
        → RegionIsCrossed b p offset k
    unfolding Stands
    crossed_at p k offset visited e =
        let o = opens-by b p k offset e in
        let inside = in-code b p _ o.at in
        let s = stands p k visited inside in
        let a = again p k s (secret-crossed b notes accepts crossed states last same some stand p k o.cmp o.ra o.rb
        offset s
        o.at o.secret) inside in
        let same_offset = offset_once a.4.cmp o.cmp a.4.ra a.4.rb o.ra o.rb a.0 offset
        (instr-once b p _ _ a.4.at o.at) in
        subst (λ (z : ℤ). RegionIsCrossed b p z k) same_offset (a.1, a.2, a.3, a.5)

    -- so the least notes are accepted
    pub least-accepted : Accepts b
    least-accepted = record {
      symbols = accepts.symbols;
      covered = λ p inside. covered_by p inside (reached p (reachable p inside));
      fitting = λ p inside k c comes e. fit p k c e
          (comes-arrives b notes accepts crossed states last same some stand p k
          comes inside);
      allowed = allowed_at;
      followed = followed_at;
      crossed = crossed_at;
    }
      where
        fit : (p : ℕ) (k c : Known) → claimed_at b p ≡ Some c
            → Arriving b notes accepts crossed states last same some stand p k → FitsClaim k c
        fit p k c e h =
            let is = noted-states b notes accepts crossed states last same some stand p c e in
            subst (FitsClaim k) (known_once h.known c (sym h.at ∙ is)) (lower-fits k h.known h.lower)

-- steps lead to the same places for any notes
pub reachable_renoted : (o : Parts) (notes : List Note) (p : ℕ) → IsReachable o p → IsReachable (with_notes o notes) p
reachable_renoted o notes p AtStart = AtStart
reachable_renoted o notes p (Behind q p' before leads) =
    Behind q p (reachable_renoted o notes q before) (leads-renoted o notes q p leads)

-- the theorem
pub least_are_accepted : (o : Parts) → 0 < length o.code → LeastAreAccepted o
least_are_accepted o some notes least crossed states reachable accepts last same stand =
    least-accepted (with_notes o least) notes accepts crossed states last same some stand
    (λ p inside. reachable_renoted o least p (reachable p inside))
