-- If one more branch joins whose region is apart, the least states outside that region are not above those that are
-- closed then. Take the states that are closed then, within the region together with what is carried through it, and of
-- both what the least states have too. These are closed while the branch isn't crossed: two states meet in the region
-- only where no more is secret after a step than after the same step from one of them.
use Rattle.std.proofs.Common.{◌≡◌, ℕ, ◌+◌, ◌-◌, ◌<◌, ◌≤◌, ◌&&◌, nat_lt, Bool, true, false, ℤ, List, [], ◌∷◌, length, slice_get, ◌⊎◌, inl, inr, Option, Some, None, refl, sym, ap, ◌∙◌, subst, ⊎_elim, arith}
use Rattle.std.specs.Prelude.{◌||◌}
use Rattle.std.proofs.lemmas.Bool.{cases_lt, cases_eq, lt-ltb, le-ltb, eq-eqb, false≢true}
use Rattle.gr_word.specs.declared.operations.Cmp.{Cmp}
use Rattle.lt_isa.specs.declared.instructions.Instr.{Instr}
use Rattle.lt_isa.specs.declared.instructions.Instr.TheVariants.{Idb, Br}
use Rattle.lt_isa.specs.Prelude.{Parts, target_of}
use Rattle.trace_patterns.specs.Prelude.{Known, bank_known, start_known, FitsClaim, SymState, at_entry, known_after, known_behind, CarriesOver, JoinsIn}
use Rattle.trace_patterns.proofs.Carries.{over-with}
use Rattle.trace_patterns.proofs.SymStateLaws.{sized-at_entry}
use Rattle.note_infer.specs.Prelude.{is_crossed, PublicWay, Next, Skips, Branches, Jumps, Crosses, States, IsAtLeast, IsFull, IsClosed, IsLeast, IsTargetOf}
use Rattle.note_infer.proofs.Lower.{fits-lower, lower-fits}
use Rattle.note_infer.proofs.CarriedLower.{way-higher}
use Rattle.note_infer.proofs.Ruled.{start-full}
use Rattle.note_infer.proofs.Tight.{fits-then, at-least-then}
use Rattle.note_infer.proofs.Passing.{Leads, PassesOver, pass-over, way-branch, known-at_entry}
use Rattle.note_infer.proofs.SameParts.{known_once, none_not}
use Rattle.note_infer.proofs.Meets.{AllFullIn, meet, Met, met, meets_above}
use Rattle.note_infer.proofs.Uppers.{upper, upper_is, either_known, either_left, either_right, behind_upper}
use Rattle.note_infer.proofs.RegionWays.{way_more, ways_outside}

-- a region is carried over from any state
record CarriedAgain (o : Parts) (place : ℕ) (offset : ℤ) (k : Known) (join : ℕ) : Type 0 where
  state : SymState
  over : CarriesOver o 0 (length o.code - 1) place offset (at_entry k) join state

carried_again : (o : Parts) (place : ℕ) (offset : ℤ) (known : Known) (join : ℕ) (next : Known)
    → JoinsIn o place offset known join next → (k : Known) → CarriedAgain o place offset k join
carried_again o place offset known join next shaped k =
    let m = over-with o (λ x y. Unit {0}) (λ x y i p' at h. tt) (λ x x' y y' h g. tt) 0 (length o.code - 1) place offset
    (at_entry known) join shaped.state (at_entry k) shaped.over tt in
    record { state = m.state; over = m.carried }

-- What is known in the region where closed states have this at its branch; at the join they are at least there.
record Inner (o : Parts) (crossed : List ℕ) (others : States) (place join : ℕ) : Type 0 where
  inner : States
  within : (x : ℕ) (k : Known) → inner x ≡ Some k → (place < x) × (x < join)
  full : (x : ℕ) (k : Known) → inner x ≡ Some k → IsFull k
  entries : (q : ℕ) (k next : Known) → others place ≡ Some k → PublicWay o crossed place k q next
      → IsAtLeast inner q next ⊎ ((q ≡ join) × IsAtLeast others join next)
  ways : (x q : ℕ) (k next : Known) → inner x ≡ Some k → PublicWay o crossed x k q next
      → IsAtLeast inner q next ⊎ ((q ≡ join) × IsAtLeast others join next)

module _ (o : Parts) (crossed : List ℕ) (place join : ℕ) (cmp : Cmp) (ra rb : ℕ) (offset : ℤ)
    (branch : slice_get o.code place ≡ Some (Br cmp ra rb offset)) (free : is_crossed crossed place ≡ false)
    (known next_known : Known) (shaped : JoinsIn o place offset known join next_known)
    (alone : (x : ℕ) → place < x → x < join → is_crossed crossed x ≡ false) (others : States)
    (closed : IsClosed o (place ∷ crossed) others) where
  inner_none : others place ≡ None → Inner o crossed others place join
  inner_none none = record {
    inner = λ x. None;
    within = λ x k e. none_not k e;
    full = λ x k e. none_not k e;
    entries = λ q k next e way. none_not k (sym none ∙ e);
    ways = λ x q k next e way. none_not k e;
  }

  among : is_crossed (place ∷ crossed) place ≡ true
  among = ap (λ (b : Bool). b || is_crossed crossed place) (eq-eqb place place refl)

  -- carried over the region from what they have at the branch
  inner_of : (k : Known) (state : SymState) → others place ≡ Some k → IsFull k
      → CarriesOver o 0 (length o.code - 1) place offset (at_entry k) join state
      → PassesOver o crossed place offset (at_entry k) join state (length o.code - 1)
      → Inner o crossed others place join
  inner_of k state at full over m = record {
    inner = m.inner;
    within = λ x j e. let h = m.passes.within x j e in (omega (arith, h.0), h.1);
    full = m.passes.full;
    entries = λ q j next e way. enters q j next (known_once j k (sym e ∙ at))
        (way-branch o crossed place j q next cmp ra rb offset branch free way);
    ways = λ x q j next e way. comes q next (m.passes.ways x q j next e way);
  }
    where
      there : IsAtLeast others join (known_after state)
      there = closed.ways place join k (known_after state) at
          (Crosses place k join (known_after state) cmp ra rb offset branch among
          (record { state = state; over = over; next_is = refl }))

      comes : (q : ℕ) (next : Known) → Leads m.inner join (known_after state) q next
          → IsAtLeast m.inner q next ⊎ ((q ≡ join) × IsAtLeast others join next)
      comes q next (inl a) = inl a
      comes q next (inr h) = inr (h.0, at-least-then others join next (known_after state) h.1 there)

      begins : FitsClaim k (known_after (at_entry k))
      begins = known-at_entry k full

      lowered : (q : ℕ) (next : Known) → next ≡ k
          → Leads m.inner join (known_after state) q (known_after (at_entry k))
          → IsAtLeast m.inner q next ⊎ ((q ≡ join) × IsAtLeast others join next)
      lowered q next e (inl a) =
          inl (at-least-then m.inner q next (known_after (at_entry k))
          (subst (λ (l : Known). FitsClaim l (known_after (at_entry k))) (sym e) begins) a)
      lowered q next e (inr h) =
          inr (
            h.0,
            at-least-then others join next (known_after (at_entry k))
                (subst (λ (l : Known). FitsClaim l (known_after (at_entry k))) (sym e) begins)
                (at-least-then others join (known_after (at_entry k)) (known_after state) h.1 there),
          )

      enters : (q : ℕ) (j next : Known) → j ≡ k → ((q ≡ place + 1) ⊎ (q ≡ target_of o place offset)) × (next ≡ j)
          → IsAtLeast m.inner q next ⊎ ((q ≡ join) × IsAtLeast others join next)
      enters q j next same (inl e, is) =
          lowered q next (is ∙ same)
          (subst (λ (x : ℕ). Leads m.inner join (known_after state) x (known_after (at_entry k))) (sym e) m.first)
      enters q j next same (inr e, is) =
          lowered q next (is ∙ same)
          (subst (λ (x : ℕ). Leads m.inner join (known_after state) x (known_after (at_entry k))) (sym e) m.second)

  inner_at : (a : Option Known) → others place ≡ a → Inner o crossed others place join
  inner_at None e = inner_none e
  inner_at (Some k) e =
      let m = carried_again o place offset known join next_known shaped k in
      inner_of k m.state e (closed.full place k e) m.over
      (pass-over o crossed 0 (length o.code - 1) place offset (at_entry k) join m.state m.over (sized-at_entry k)
      (λ x le lt. alone x (omega (arith, le)) lt))

  -- What is least and closed, and in the region also what is carried through it: no more than either of them is secret
  -- together, where the bank of each block is known whose address is read.
  module _ (states : States) (least : IsLeast o crossed states) (first : ℕ) (within : first ≤ join)
      (early : (p q : ℕ) → place < q → q < first → IsTargetOf o [] p q → (place ≤ p) × (p < q))
      (knows : (q : ℕ) → first ≤ q → q < join → (rd slot : ℕ) (k : Known) → slice_get o.code q ≡ Some (Idb rd slot)
      → states q ≡ Some k → bank_known k slot ≡ None → ⊥) (h : Inner o crossed others place join) where
    -- the others, but for places to which steps lead only from the branch
    abbrev pick : Bool → ℕ → Option Known
    pick true x = None
    pick false x = others x

    early_at : ℕ → Bool
    early_at x = nat_lt place x && nat_lt x first

    outer : States
    outer x = pick (early_at x) x

    outer_none : (x : ℕ) → place < x → x < first → outer x ≡ None
    unfolding outer early_at
    outer_none x lt le =
        ap (λ (b : Bool). pick (b && nat_lt x first) x) (lt-ltb place x lt) ∙ ap (λ (b : Bool). pick b x)
        (lt-ltb x first le)

    outer_before : (x : ℕ) → x ≤ place → outer x ≡ others x
    unfolding outer early_at
    outer_before x le = ap (λ (b : Bool). pick (b && nat_lt x first) x) (le-ltb place x le)

    and_none : (b : Bool) → (b && false) ≡ false
    and_none true = refl
    and_none false = refl

    outer_behind : (x : ℕ) → first ≤ x → outer x ≡ others x
    unfolding outer early_at
    outer_behind x le =
        ap (λ (b : Bool). pick (nat_lt place x && b) x) (le-ltb x first le)
        ∙ ap (λ (b : Bool). pick b x) (and_none (nat_lt place x))

    outer_same : (x : ℕ) → (place < x → x < first → ⊥) → outer x ≡ others x
    outer_same x out =
        ⊎_elim
        (λ (lt : place < x).
        ⊎_elim (λ (le : x < first). absurd (out lt le)) (λ (more : first ≤ x). outer_behind x more) (cases_lt x first))
        (λ (le : x ≤ place). outer_before x le)
        (cases_lt place x)

    record Outer (x : ℕ) (k : Known) : Type 0 where
      late : place < x → x < first → ⊥
      at : others x ≡ Some k

    outer_is : (x : ℕ) (k : Known) → outer x ≡ Some k → Outer x k
    outer_is x k e = record { late = late; at = sym (outer_same x late) ∙ e }
      where
        late : place < x → x < first → ⊥
        late lt le = none_not k (sym (outer_none x lt le) ∙ e)

    states_full : (x : ℕ) → AllFullIn (states x)
    states_full x k e = least.closed.full x k e

    inner_full : (x : ℕ) → AllFullIn (h.inner x)
    inner_full x k e = h.full x k e

    outer_full : (x : ℕ) → AllFullIn (outer x)
    outer_full x k e = closed.full x k (outer_is x k e).at

    -- what they have together with the least states
    one : States
    one x = meet (states x) (h.inner x)

    two : States
    two x = meet (states x) (outer x)

    one_met : (x : ℕ) (k : Known) → one x ≡ Some k → Met (states x) (h.inner x) k
    unfolding one
    one_met x k e = met (states x) (h.inner x) k (states_full x) (inner_full x) e

    two_met : (x : ℕ) (k : Known) → two x ≡ Some k → Met (states x) (outer x) k
    unfolding two
    two_met x k e = met (states x) (outer x) k (states_full x) (outer_full x) e

    one_full : (x : ℕ) → AllFullIn (one x)
    one_full x k e = (one_met x k e).full

    two_full : (x : ℕ) → AllFullIn (two x)
    two_full x k e = (two_met x k e).full

    mixed : States
    mixed x = either_known (one x) (two x)

    mixed_left : (q : ℕ) (low : Known) → IsFull low → IsAtLeast states q low → IsAtLeast h.inner q low
        → IsAtLeast mixed q low
    unfolding mixed one
    mixed_left q low full a b =
        either_left one two q low (one_full q) (two_full q)
        (meets_above states h.inner q low (states_full q) (inner_full q) full a b)

    mixed_right : (q : ℕ) (low : Known) → IsFull low → (place < q → q < first → ⊥) → IsAtLeast states q low
        → IsAtLeast others q low → IsAtLeast mixed q low
    unfolding mixed two
    mixed_right q low full late a b =
        either_right one two q low (one_full q) (two_full q)
        (meets_above states outer q low (states_full q) (outer_full q) full a
        (record { known = b.known; is = outer_same q late ∙ b.is; above = b.above }))

    -- a way from what is at most the least states carries at most the least states
    record Carried (x q : ℕ) (k high next : Known) : Type 0 where
      brought : Known
      way : PublicWay o crossed x high q brought
      higher : FitsClaim next brought
      full : IsFull next

    carried : (x q : ℕ) (k high next : Known) → IsFull k → IsFull high → FitsClaim k high
        → PublicWay o crossed x k q next → Carried x q k high next
    carried x q k high next full high_full fits way =
        let up = way-higher o crossed x k q next high way (fits-lower k high full high_full fits) in
        record { brought = up.known; way = up.way; higher = lower-fits next up.known up.higher; full = up.higher.low_full }

    kept_least : (x q : ℕ) (k high next : Known) → states x ≡ Some high → IsFull k → FitsClaim k high
        → PublicWay o crossed x k q next → IsAtLeast states q next
    kept_least x q k high next at full fits way =
        let c = carried x q k high next full (least.closed.full x high at) fits way in
        at-least-then states q next c.brought c.higher (least.closed.ways x q high c.brought at c.way)

    joins : (q : ℕ) (low high : Known) → IsFull low → FitsClaim low high → IsAtLeast states q low
        → IsAtLeast h.inner q high ⊎ ((q ≡ join) × IsAtLeast others join high) → IsAtLeast mixed q low
    joins q low high full fits a (inl b) = mixed_left q low full a (at-least-then h.inner q low high fits b)
    joins q low high full fits a (inr g) =
        subst (λ (x : ℕ). IsAtLeast mixed x low) (sym g.0)
        (mixed_right join low full (λ (l : place < join) (m : join < first). absurd (omega (arith, m, within)))
        (subst (λ (x : ℕ). IsAtLeast states x low) g.0 a) (at-least-then others join low high fits g.1))

    one_goes : (x q : ℕ) (k next : Known) → one x ≡ Some k → PublicWay o crossed x k q next → IsAtLeast mixed q next
    one_goes x q k next e way =
        let m = one_met x k e in
        let c = carried x q k m.two next m.full (inner_full x m.two m.at_two) m.low_two way in
        joins q next c.brought c.full c.higher (kept_least x q k m.one next m.at_one m.full m.low_one way)
        (h.ways x q m.two c.brought m.at_two c.way)

    two_goes : (x q : ℕ) (k next : Known) → two x ≡ Some k → PublicWay o crossed x k q next → IsAtLeast mixed q next
    two_goes x q k next e way = by (cases_eq x place)
      where
        m : Met (states x) (outer x) k
        m = two_met x k e

        at : Outer x m.two
        at = outer_is x m.two m.at_two

        c : Carried x q k m.two next
        c = carried x q k m.two next m.full (outer_full x m.two m.at_two) m.low_two way

        a : IsAtLeast states q next
        a = kept_least x q k m.one next m.at_one m.full m.low_one way

        by : (x ≡ place) ⊎ (x ≡ place → ⊥) → IsAtLeast mixed q next
        by (inl same) =
            joins q next c.brought c.full c.higher a
            (h.entries q m.two c.brought (subst (λ (y : ℕ). others y ≡ Some m.two) same at.at)
            (subst (λ (y : ℕ). PublicWay o crossed y m.two q c.brought) same c.way))
        by (inr ne) =
            mixed_right q next c.full
            (λ (l : place < q) (r : q < first).
            ways_outside o crossed place first cmp ra rb offset branch early x q m.two c.brought c.way ne at.late l r) a
            (at-least-then others q next c.brought c.higher
            (closed.ways x q m.two c.brought at.at (way_more o crossed place x m.two q c.brought ne c.way)))

    -- if both are known, no more is secret after one step than after each
    both_at : (q : ℕ) (k l high : Known) → ((c : Known) → IsFull c → FitsClaim k c → FitsClaim l c → FitsClaim high c)
        → IsAtLeast mixed q k → IsAtLeast mixed q l → ((c : Known) → mixed q ≡ Some c → IsFull c)
        → IsAtLeast mixed q high
    both_at q k l high low a b full = record {
      known = a.known;
      is = a.is;
      above = low a.known (full a.known a.is) a.above
          (subst (FitsClaim l) (known_once b.known a.known (sym b.is ∙ a.is)) b.above);
    }

    mixed_cases : (x : ℕ) (k : Known) → mixed x ≡ Some k
        → ((one x ≡ Some k) ⊎ (two x ≡ Some k))
        ⊎ ((a : Known) × (b : Known) × (one x ≡ Some a) × (two x ≡ Some b) × (upper a b ≡ k))
    unfolding mixed
    mixed_cases x k e = by (one x) (two x) refl refl e
      where
        by : (y z : Option Known) → one x ≡ y → two x ≡ z → either_known (one x) (two x) ≡ Some k
            → ((one x ≡ Some k) ⊎ (two x ≡ Some k))
            ⊎ ((a : Known) × (b : Known) × (one x ≡ Some a) × (two x ≡ Some b) × (upper a b ≡ k))
        by None z f g e = inl (inr (sym (ap (λ (w : Option Known). either_known w (two x)) f) ∙ e))
        by (Some a) None f g e =
            inl (inl (f ∙ sym (ap (λ (w : Option Known). either_known w (two x)) f ∙ ap (either_known (Some a)) g) ∙ e))
        by (Some a) (Some b) f g e =
            inr (
              a,
              b,
              f,
              g,
              known_once (upper a b) k
                  (sym (ap (λ (w : Option Known). either_known w (two x)) f ∙ ap (either_known (Some a)) g) ∙ e),
            )

    mixed_full : (x : ℕ) (k : Known) → mixed x ≡ Some k → IsFull k
    mixed_full x k e = by (mixed_cases x k e)
      where
        by : ((one x ≡ Some k) ⊎ (two x ≡ Some k))
            ⊎ ((a : Known) × (b : Known) × (one x ≡ Some a) × (two x ≡ Some b) × (upper a b ≡ k)) → IsFull k
        by (inl (inl f)) = one_full x k f
        by (inl (inr f)) = two_full x k f
        by (inr (a, b, f, g, is)) = subst IsFull is (upper_is a b (one_full x a f) (two_full x b g)).full

    module _ (x : ℕ) (a b : Known) (e : one x ≡ Some a) (f : two x ≡ Some b) where
      both_first : first ≤ x
      both_first =
          let i = h.within x (one_met x a e).two (one_met x a e).at_two in
          ⊎_elim (λ (lt : x < first). absurd ((outer_is x (two_met x b f).two (two_met x b f).at_two).late i.0 lt))
          (λ (le : first ≤ x). le) (cases_lt x first)

      both_inside : (place < x) × (x < join)
      both_inside = h.within x (one_met x a e).two (one_met x a e).at_two

      both_low : FitsClaim b (one_met x a e).one
      both_low =
          subst (FitsClaim b)
          (known_once (two_met x b f).one (one_met x a e).one (sym (two_met x b f).at_one ∙ (one_met x a e).at_one))
          (two_met x b f).low_one

      alike : (q : ℕ) (next : Known) → next ≡ upper a b → IsAtLeast mixed q a → IsAtLeast mixed q b
          → IsAtLeast mixed q next
      alike q next is u v =
          subst (IsAtLeast mixed q) (sym is)
          (both_at q a b (upper a b)
          (λ c full k l. (upper_is a b (one_full x a e) (two_full x b f)).lowest c k l) u v (mixed_full q))

      both_goes : (q : ℕ) (next : Known) → PublicWay o crossed x (upper a b) q next → IsAtLeast mixed q next
      both_goes q next (Next p' k' q' n' i c g to inside is) =
          subst (IsAtLeast mixed q) (sym is)
          (both_at q (known_behind a i) (known_behind b i) (known_behind (upper a b) i)
          (λ high full k l. behind_upper a b high (one_full x a e) (two_full x b f) full (one_met x a e).one
          (one_met x a e).low_one both_low i
          (λ rd slot same none. knows x both_first both_inside.1 rd slot (one_met x a e).one
          (c ∙ ap (λ (j : Instr). let r : Option Instr = Some j in r) same) (one_met x a e).at_one none) k l)
          (one_goes x q a (known_behind a i) e (Next x a q (known_behind a i) i c g to inside refl))
          (two_goes x q b (known_behind b i) f (Next x b q (known_behind b i) i c g to inside refl)) (mixed_full q))
      both_goes q next (Skips p' k' q' n' d sa sb y c free to inside is) =
          alike q next is (one_goes x q a a e (Skips x a q a d sa sb y c free to inside refl))
          (two_goes x q b b f (Skips x b q b d sa sb y c free to inside refl))
      both_goes q next (Branches p' k' q' n' d sa sb y c free to inside is) =
          alike q next is (one_goes x q a a e (Branches x a q a d sa sb y c free to inside refl))
          (two_goes x q b b f (Branches x b q b d sa sb y c free to inside refl))
      both_goes q next (Jumps p' k' q' n' y c to inside is) =
          alike q next is (one_goes x q a a e (Jumps x a q a y c to inside refl))
          (two_goes x q b b f (Jumps x b q b y c to inside refl))
      both_goes q next (Crosses p' k' q' n' d sa sb y c inner joined) =
          absurd (false≢true (sym (alone x both_inside.0 both_inside.1) ∙ inner))

    mixed_closed : IsClosed o crossed mixed
    mixed_closed = record {
      full = mixed_full;
      start = mixed_right 0 start_known start-full (λ (l : place < 0) (m : 0 < first). absurd (omega (arith, l)))
          least.closed.start closed.start;
      ways = λ x q k next e way. goes x q k next way (mixed_cases x k e);
    }
      where
        goes : (x q : ℕ) (k next : Known) → PublicWay o crossed x k q next
            → ((one x ≡ Some k) ⊎ (two x ≡ Some k))
            ⊎ ((a : Known) × (b : Known) × (one x ≡ Some a) × (two x ≡ Some b) × (upper a b ≡ k))
            → IsAtLeast mixed q next
        goes x q k next way (inl (inl e)) = one_goes x q k next e way
        goes x q k next way (inl (inr e)) = two_goes x q k next e way
        goes x q k next way (inr (a, b, e, f, is)) =
            both_goes x a b e f q next (subst (λ (l : Known). PublicWay o crossed x l q next) (sym is) way)

    -- so outside the region the least states are at most the others
    least_outside : (q : ℕ) (k : Known) → (place < q → q < join → ⊥) → states q ≡ Some k → IsAtLeast others q k
    least_outside q k out e = by (mixed_cases q a.known a.is)
      where
        a : IsAtLeast mixed q k
        a = least.lowest mixed mixed_closed q k e

        apart_from : {A : Type 0} (l : Known) → one q ≡ Some l → A
        apart_from l f =
            let i = h.within q (one_met q l f).two (one_met q l f).at_two in absurd (out i.0 i.1)

        by : ((one q ≡ Some a.known) ⊎ (two q ≡ Some a.known))
            ⊎ ((l : Known) × (m : Known) × (one q ≡ Some l) × (two q ≡ Some m) × (upper l m ≡ a.known))
            → IsAtLeast others q k
        by (inl (inl f)) = apart_from a.known f
        by (inl (inr f)) =
            let m = two_met q a.known f in
            record {
              known = m.two;
              is = (outer_is q m.two m.at_two).at;
              above = fits-then k a.known m.two a.above m.low_two;
            }
        by (inr (l, m, f, g, is)) = apart_from l f

  pub least_within : (states : States) → IsLeast o crossed states → (first : ℕ) → first ≤ join
      → ((p q : ℕ) → place < q → q < first → IsTargetOf o [] p q → (place ≤ p) × (p < q))
      → ((q : ℕ) → first ≤ q → q < join → (rd slot : ℕ) (k : Known) → slice_get o.code q ≡ Some (Idb rd slot)
      → states q ≡ Some k → bank_known k slot ≡ None → ⊥)
      → (q : ℕ) (k : Known) → (place < q → q < join → ⊥) → states q ≡ Some k → IsAtLeast others q k
  least_within states least first within early knows q k out e =
      least_outside states least first within early knows (inner_at (others place) refl) q k out e
