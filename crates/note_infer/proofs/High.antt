-- What is known under notes that are accepted, at the places that the least states reach: states that are closed too,
-- so the least ones are lower.
use Rattle.std.proofs.Common.{◌≡◌, ℕ, ◌-◌, ◌<◌, ◌≤◌, Bool, true, false, ◌||◌, ℤ, List, length, slice_get, ◌⊎◌, inl, inr, Option, Some, None, refl, sym, ap, ◌∙◌, subst, ⊎_elim, arith}
use Rattle.std.specs.Prelude.{if◌then◌else◌}
use Rattle.std.proofs.lemmas.Option.{slice_get_past}
use Rattle.std.proofs.lemmas.Bool.{cases_lt, false≢true}
use Rattle.gr_word.specs.declared.operations.Cmp.{Cmp}
use Rattle.lt_isa.specs.declared.instructions.Instr.{Instr}
use Rattle.lt_isa.specs.declared.instructions.Instr.TheVariants.{Jmp, Br}
use Rattle.lt_isa.specs.Prelude.{Parts, target_of}
use Rattle.trace_patterns.specs.declared.reasons.Reason.{Reason}
use Rattle.trace_patterns.specs.Prelude.{Shown, TreeEvent, Known, start_known, is_secret, SymState, at_entry, known_after, Ruling, Refused, Falls, Leaves, Opens, claimed_at, jumped, ruling_at, ruling_of, CrossesFrom, VisitedAt, Noted, Unnoted, ComesTo, Starts, FallsTo, JoinsAt, LiesInside, Accepts, only_goes_on, known_behind, without_notes, CarriesOver}
use Rattle.trace_patterns.proofs.SymStateLaws.{sized-at_entry}
use Rattle.trace_patterns.proofs.Walks.{crosses-region}
use Rattle.trace_patterns.proofs.Notes.{claimed_at-inside}
use Rattle.lt_checker.specs.Prelude.{Arrival, Unreached, Here, Inside, reached_at, NoneBelow}
use Rattle.lt_checker.proofs.PlaceRelations.{here-comes, comes-here, lies-reached}
use Rattle.lt_checker.proofs.Refusals.{accepts-none}
use Rattle.lt_checker.proofs.AcceptanceLaws.{known-once}
use Rattle.note_infer.specs.Prelude.{PublicWay, Next, Skips, Branches, Jumps, Crosses, is_crossed, States, IsAtLeast, IsClosed, IsLast, OpensTheSame}
use Rattle.note_infer.proofs.Lower.{IsLower, lower-fits, fits-lower, lower-own}
use Rattle.trace_patterns.proofs.Carries.{instr-once, over-once, offset_once}
use Rattle.note_infer.proofs.CarriedLower.{way-any}
use Rattle.note_infer.proofs.RuledLower.{IsPlainRuling, plain-ruled, ruling-some}
use Rattle.note_infer.proofs.Ruled.{Jumped, jumped-is, br-ruled, jmp-ruled, OpensBy, opens-by, visited-full, comes-full}
use Rattle.note_infer.proofs.Arms.{cross-carries}
use Rattle.note_infer.proofs.SameParts.{known_once}

-- what is known at a place that is visited
known_from : Option Known → Arrival → Option Known
known_from (Some c) r = Some c
known_from None (Here k) = Some k
known_from None Unreached = None
known_from None (Inside join k) = None

visited_state : Parts → ℕ → Option Known
visited_state a p = known_from (claimed_at a p) (reached_at a p)

-- where there is something, something else
only_if : Option Known → Option Known → Option Known
only_if None x = None
only_if (Some k) x = x

only_if_some : (x y : Option Known) (k : Known) → only_if x y ≡ Some k → ((m : Known) × (x ≡ Some m)) × (y ≡ Some k)
unfolding only_if
only_if_some None y k e = absurd (let f : ◌≡◌ {A = Option Known} None (Some k) = e in cc)
only_if_some (Some m) y k e = ((m, refl), e)

only_if_from : (x y : Option Known) (m k : Known) → x ≡ Some m → y ≡ Some k → only_if x y ≡ Some k
unfolding only_if
only_if_from x y m k e f = ap (λ (v : Option Known). only_if v y) e ∙ f

pub in-code : (a : Parts) (p : ℕ) (i : Instr) → slice_get a.code p ≡ Some i → p < length a.code
in-code a p i e =
    ⊎_elim (λ (lt : p < length a.code). lt)
    (λ (le : length a.code ≤ p). absurd (let f : ◌≡◌ {A = Option Instr} None (Some i) = sym
    (slice_get_past a.code p le) ∙ e in cc))
    (cases_lt p (length a.code))

state_visits : (a : Parts) (p : ℕ) (k : Known) → visited_state a p ≡ Some k → VisitedAt a p k
unfolding visited_state known_from
state_visits a p k e = by (claimed_at a p) (reached_at a p) refl refl e
  where
    by : (c : Option Known) (r : Arrival) → claimed_at a p ≡ c → reached_at a p ≡ r → known_from c r ≡ Some k
        → VisitedAt a p k
    by (Some c) r at here f = Noted p k (at ∙ f)
    by None (Here j) at here f =
        Unnoted p k at (here-comes a p k (here ∙ ap Here (known_once j k f)))
    by None Unreached at here f = absurd (let g : ◌≡◌ {A = Option Known} None (Some k) = f in cc)
    by None (Inside join j) at here f = absurd (let g : ◌≡◌ {A = Option Known} None (Some k) = f in cc)

module _ (a : Parts) (accepts : Accepts a) where
  none_before : (p : ℕ) → p < length a.code → NoneBelow a p
  none_before p inside = λ q lt. accepts-none a accepts q (omega arith)

  visits_state : (p : ℕ) (k : Known) → p < length a.code → VisitedAt a p k → visited_state a p ≡ Some k
  unfolding visited_state known_from
  visits_state p k inside (Noted q c at) = ap (λ (v : Option Known). known_from v (reached_at a p)) at
  visits_state p k inside (Unnoted q c at comes) =
      ap (λ (v : Option Known). known_from v (reached_at a p)) at
      ∙ ap (known_from None) (comes-here a p k comes (none_before p inside) inside)

  -- no place is both visited and inside a region
  pub never-both : (p : ℕ) (k : Known) → p < length a.code → VisitedAt a p k → LiesInside a p → ⊥
  never-both p k inside (Noted q c at) lies =
      let region = crosses-region a 0 (length a.code - 1) lies.branch lies.offset
      (at_entry lies.known) lies.pattern lies.join lies.state lies.crosses in
      let f : ◌≡◌ {A = Option Known} None (Some k) =
      sym (claimed_at-inside a lies.branch lies.join p region.1.no_note lies.behind lies.before) ∙ at in
      absurd cc
  never-both p k inside (Unnoted q c at comes) lies =
      let f : ◌≡◌ {A = Arrival} (Inside lies.join (known_after lies.state)) (Here k) =
      sym (lies-reached a p lies (none_before p inside) inside)
      ∙ comes-here a p k comes (none_before p inside) inside in
      absurd cc

  -- a branch that opens a region, which is crossed
  pub record Region (p : ℕ) (k : Known) (offset : ℤ) : Type 0 where
    pub visited : VisitedAt a p k
    pub opens : ruling_at a p k ≡ Opens offset
    pub by : OpensBy a p k offset
    pub pattern : Shown TreeEvent
    pub join : ℕ
    pub state : SymState
    pub crosses : CrossesFrom a p offset k pattern join state

  module _ (crossed : List ℕ) (states : States) (last : IsLast (without_notes a) crossed states)
      (same : OpensTheSame a crossed states) (some : 0 < length a.code) where
    high : States
    high p = only_if (states p) (visited_state a p)

    high_visits : (p : ℕ) (k : Known) → high p ≡ Some k → VisitedAt a p k
    unfolding high
    high_visits p k e = state_visits a p k (only_if_some (states p) (visited_state a p) k e).1

    high_is : (p : ℕ) (m k : Known) → p < length a.code → states p ≡ Some m → VisitedAt a p k → high p ≡ Some k
    unfolding high
    high_is p m k inside at visited =
        only_if_from (states p) (visited_state a p) m k at (visits_state p k inside visited)

    -- the state on entry to a reached place is at most what is known there
    comes_high : (q : ℕ) (m next : Known) → q < length a.code → states q ≡ Some m → ComesTo a q next
        → IsAtLeast high q next
    comes_high q m next inside at comes = by (claimed_at a q) refl
      where
        by : (c : Option Known) → claimed_at a q ≡ c → IsAtLeast high q next
        by None e = record {
          known = next;
          is = high_is q m next inside at (Unnoted q next e comes);
          above = lower-fits next next (lower-own next (comes-full a q next comes));
        }
        by (Some c) e = record {
          known = c;
          is = high_is q m c inside at (Noted q c e);
          above = accepts.fitting q inside next c comes e;
        }

    -- a branch that is crossed and reached opens a region
    pub region-of : (p : ℕ) (m k : Known) → states p ≡ Some m → is_crossed crossed p ≡ true → p < length a.code
        → VisitedAt a p k → (offset : ℤ) × Region p k offset
    region-of p m k at among inside visited =
        let o = same.all p m at among in
        let e : o.known ≡ k = known-once a accepts p o.known k inside o.visited visited in
        let opens : ruling_at a p k ≡ Opens o.offset =
        subst (λ (x : Known). ruling_at a p x ≡ Opens o.offset) e o.opens in
        let c = accepts.crossed p k o.offset visited opens in (
          o.offset,
          record {
            visited = visited;
            opens = opens;
            by = opens-by a p k o.offset opens;
            pattern = c.0;
            join = c.1;
            state = c.2;
            crosses = c.3;
          },
        )

    -- a branch that isn't crossed and is visited is public, and continues
    pub record PublicBranch (p : ℕ) (k : Known) (cmp : Cmp) (ra rb : ℕ) (offset : ℤ) : Type 0 where
      pub public : (is_secret k ra || is_secret k rb) ≡ false
      pub falls : ruling_at a p k ≡ Falls k
      pub jumped : Jumped a (target_of a p offset) k (Falls k)

    pub public-branch : (p : ℕ) (k : Known) (cmp : Cmp) (ra rb : ℕ) (offset : ℤ)
        → slice_get a.code p ≡ Some (Br cmp ra rb offset) → is_crossed crossed p ≡ false → VisitedAt a p k
        → PublicBranch p k cmp ra rb offset
    public-branch p k cmp ra rb offset at apart visited =
        by (is_secret k ra || is_secret k rb) refl (jumped-is a (target_of a p offset) k (Falls k))
      where
        ruled : (b : Bool) → (is_secret k ra || is_secret k rb) ≡ b → ruling_at a p k
            ≡ (if b then Opens offset else jumped a (target_of a p offset) k (Falls k))
        ruled b is = ruling-some a p k (Br cmp ra rb offset) at ∙ br-ruled a p k cmp ra rb offset b is

        by : (b : Bool) → (is_secret k ra || is_secret k rb) ≡ b
            → ((reason : Reason)
            × (jumped a (target_of a p offset) k (Falls k) ≡ Refused reason))
            ⊎ Jumped a (target_of a p offset) k (Falls k) → PublicBranch p k cmp ra rb offset
        by true is j =
            absurd (false≢true (sym apart ∙ same.only p
            (record { known = k; offset = offset; visited = visited; opens = ruled true is })))
        by false is (inl r) = absurd (accepts.allowed p k r.0 visited (ruled false is ∙ r.1))
        by false is (inr j) = record { public = is; falls = ruled false is ∙ j.is; jumped = j }

    pub plain-falls : (p : ℕ) (k : Known) (i : Instr) → slice_get a.code p ≡ Some i → only_goes_on i ≡ true
        → VisitedAt a p k → ruling_at a p k ≡ Falls (known_behind k i)
    plain-falls p k i at goes visited = by (plain-ruled a p k i goes)
      where
        by : IsPlainRuling (known_behind k i) (ruling_of a p k i) → ruling_at a p k ≡ Falls (known_behind k i)
        by (inl r) = absurd (accepts.allowed p k r.0 visited (ruling-some a p k i at ∙ r.1))
        by (inr f) = ruling-some a p k i at ∙ f

    pub jump-goes : (p : ℕ) (k : Known) (offset : ℤ) → slice_get a.code p ≡ Some (Jmp offset) → VisitedAt a p k
        → Jumped a (target_of a p offset) k Leaves
    jump-goes p k offset at visited = by (jumped-is a (target_of a p offset) k Leaves)
      where
        by : ((reason : Reason)
            × (jumped a (target_of a p offset) k Leaves ≡ Refused reason))
            ⊎ Jumped a (target_of a p offset) k Leaves → Jumped a (target_of a p offset) k Leaves
        by (inl r) = absurd (accepts.allowed p k r.0 visited
            (ruling-some a p k (Jmp offset) at ∙ jmp-ruled a p k offset ∙ r.1))
        by (inr j) = j

    -- a jump that is taken ends where at most this is known
    jumped_high : (q : ℕ) (m k : Known) (next : Ruling) (target : ℕ) → states q ≡ Some m → q ≡ target
        → Jumped a target k next → IsAtLeast high q k
    jumped_high q m k next target at to j = record {
      known = j.claimed;
      is = high_is q m j.claimed (subst (λ (x : ℕ). x < length a.code) (sym to) j.inside) at
          (Noted q j.claimed (subst (λ (x : ℕ). claimed_at a x ≡ Some j.claimed) (sym to) j.at));
      above = j.fit;
    }

    high_ways : (p q : ℕ) (k next m : Known) → VisitedAt a p k → ((n : Known) × (states p ≡ Some n))
        → states q ≡ Some m → PublicWay (without_notes a) crossed p k q next → IsAtLeast high q next
    high_ways p q k next m visited from at (Next p' k' q' n' i code goes to inside is) =
        subst (IsAtLeast high q) (sym is)
        (comes_high q m (known_behind k i) inside at
        (subst (λ (x : ℕ). ComesTo a x (known_behind k i)) (sym to)
        (FallsTo p k (known_behind k i) visited (plain-falls p k i code goes visited))))
    high_ways p q k next m visited from at (Skips p' k' q' n' cmp ra rb offset code apart to inside is) =
        subst (IsAtLeast high q) (sym is)
        (comes_high q m k inside at
        (subst (λ (x : ℕ). ComesTo a x k) (sym to)
        (FallsTo p k k visited (public-branch p k cmp ra rb offset code apart visited).falls)))
    high_ways p q k next m visited from at (Branches p' k' q' n' cmp ra rb offset code apart to inside is) =
        subst (IsAtLeast high q) (sym is)
        (jumped_high q m k (Falls k) (target_of a p offset) at to
        (public-branch p k cmp ra rb offset code apart visited).jumped)
    high_ways p q k next m visited from at (Jumps p' k' q' n' offset code to inside is) =
        subst (IsAtLeast high q) (sym is)
        (jumped_high q m k Leaves (target_of a p offset) at to (jump-goes p k offset code visited))
    high_ways p q k next m visited from at (Crosses p' k' q' n' cmp ra rb offset code among joins) =
        let inside = in-code a p _ code in
        let r = region-of p from.0 k from.1 among inside visited in
        let e = offset_once r.1.by.cmp cmp r.1.by.ra r.1.by.rb ra rb r.0 offset (instr-once a p _ _ r.1.by.at code) in
        let over = cross-carries a 0 (length a.code - 1) p r.0 (at_entry k) r.1.pattern r.1.join r.1.state r.1.crosses
        (sized-at_entry k) in
        let one = over-once (without_notes a) 0 (length a.code - 1) p offset
        (at_entry k) r.1.join q r.1.state joins.state
        (subst (λ (z : ℤ). CarriesOver (without_notes a) 0 (length a.code - 1) p z
        (at_entry k) r.1.join r.1.state) e over)
        joins.over in
        let region = crosses-region a 0 (length a.code - 1) p r.0
        (at_entry k) r.1.pattern r.1.join r.1.state r.1.crosses in
        subst (IsAtLeast high q) (ap known_after one.1 ∙ sym joins.next_is)
        (comes_high q m (known_after r.1.state) (subst (λ (x : ℕ). x < length a.code) one.0 region.1.in_code) at
        (subst (λ (x : ℕ). ComesTo a x (known_after r.1.state)) one.0
        (JoinsAt p k r.0 r.1.pattern r.1.join r.1.state visited r.1.opens r.1.crosses)))

    high_closed : IsClosed (without_notes a) crossed high
    unfolding high
    high_closed = record {
      full = λ p k e. visited-full a p k (high_visits p k e);
      start = comes_high 0 last.least.closed.start.known start_known some last.least.closed.start.is Starts;
      ways = λ p q k next e way.
          let was = (only_if_some (states p) (visited_state a p) k e).0 in
          let other = way-any (without_notes a) crossed p k q next was.0 way in
          let to = last.least.closed.ways p q was.0 other.known was.1 other.way in
          high_ways p q k next to.known (high_visits p k e) was to.is way;
    }

    -- the least states are lower than what is known under the notes
    pub record KnownHigher (p : ℕ) (m : Known) : Type 0 where
      pub known : Known
      pub visited : VisitedAt a p known
      pub lower : IsLower m known

    pub least-higher : (p : ℕ) (m : Known) → states p ≡ Some m → KnownHigher p m
    least-higher p m e =
        let h = last.least.lowest high high_closed p m e in
        let visited = high_visits p h.known h.is in
        record {
          known = h.known;
          visited = visited;
          lower = fits-lower m h.known (last.least.closed.full p m e) (visited-full a p h.known visited) h.above;
        }
