-- The least states exist, and the branches that are crossed at last.
use Rattle.std.proofs.Common.{◌≡◌, ℕ, zero, suc, ◌<◌, ◌≤◌, ◌||◌, Bool, true, false, List, [], ◌∷◌, ◌++◌, length, slice_get, get_or, set, ◌⊎◌, inl, inr, Option, Some, None, refl, sym, ap, ◌∙◌, subst, ⊎_elim, arith}
use Rattle.std.specs.Prelude.{replicate}
use Rattle.std.proofs.lemmas.Bool.{cases_eq, cases_lt}
use Rattle.std.proofs.lemmas.List.{get_or_past, get_or-replicate, length-replicate}
use Rattle.std.proofs.lemmas.Option.{slice_get_within, slice_get-get_or}
use Rattle.lt_isa.specs.declared.instructions.Instr.{Instr}
use Rattle.lt_isa.specs.declared.instructions.Instr.TheVariants.{Nop, Br}
use Rattle.lt_isa.specs.Prelude.{Parts, IsInRange}
use Rattle.trace_patterns.specs.Prelude.{Known, is_secret, start_known, JoinsIn}
use Rattle.note_infer.specs.Prelude.{is_crossed, MayJoin, HasGrown, NoneYet, Joins, at_places, LoopHolds, work_left, BranchIsAt, HasLeast, HasLast, places_left}
use Rattle.note_infer.specs.declared.joining.Branch.{Branch}
use Rattle.note_infer.proofs.Turns.{loop_begun, loop_turn, loop_shorter, loop_place}
use Rattle.note_infer.proofs.Growing.{least_ended, left_less, crossed_stays, unreached_stays, public_stays, unshaped_stays, carried_joins, other_stays}
use Rattle.note_infer.proofs.Looking.{br_not}
use Rattle.note_infer.proofs.Deciding.{halt_not, jump_not, Leads, GoesOn, Halts, Jumps, Branches, leads, IsCarriedSome, carried_or_not}
use Rattle.note_infer.proofs.Raised.{looked_at}

-- the last place that waits
last_of : (stack : List ℕ) → (stack ≡ []) ⊎ ((rest : List ℕ) × (place : ℕ) × (stack ≡ rest ++ place ∷ []))
last_of [] = inl refl
last_of (x ∷ stack) = by (last_of stack)
  where
    by : (stack ≡ []) ⊎ ((rest : List ℕ) × (place : ℕ) × (stack ≡ rest ++ place ∷ []))
        → (◌≡◌ {A = List ℕ} (x ∷ stack) [])
        ⊎ ((rest : List ℕ) × (place : ℕ) × (◌≡◌ {A = List ℕ} (x ∷ stack) (rest ++ place ∷ [])))
    by (inl e) = inr ([], x, ap (λ (l : List ℕ). x ∷ l) e)
    by (inr m) = inr (x ∷ m.0, m.1, ap (λ (l : List ℕ). x ∷ l) m.2)

-- the loop is run to its end
module _ (o : Parts) (crossed : List ℕ) (range : IsInRange o) where
  Ended : Type 0
  Ended = (states : List (Option Known)) × LoopHolds o crossed states []

  turn : (n : ℕ) (states : List (Option Known)) (stack : List ℕ)
      → ((states : List (Option Known)) (stack : List ℕ) → LoopHolds o crossed states stack
      → work_left states stack ≤ n → Ended)
      → LoopHolds o crossed states stack → work_left states stack ≤ suc n → Ended
  unfolding Ended
  turn n states stack again h le = by (last_of stack)
    where
      by : (stack ≡ []) ⊎ ((rest : List ℕ) × (place : ℕ) × (stack ≡ rest ++ place ∷ []))
          → (states : List (Option Known)) × LoopHolds o crossed states []
      by (inl e) = (states, subst (LoopHolds o crossed states) e h)
      by (inr m) =
          let holds = subst (LoopHolds o crossed states) m.2 h in
          let less = subst (λ (l : List ℕ). work_left states l ≤ suc n) m.2 le in
          let l = looked_at o crossed m.1 states m.0 h.under_way.full h.size
          (loop_place o crossed states m.0 m.1 holds) in
          again l.after l.rest (loop_turn o crossed states m.0 m.1 l.after l.rest range holds l.looks)
          (omega (arith, less, loop_shorter o crossed states m.0 m.1 l.after l.rest l.looks))

  nothing_left : (states : List (Option Known)) (stack : List ℕ) → work_left states stack ≤ 0 → stack ≡ []
  nothing_left states [] le = refl
  nothing_left states (x ∷ stack) le = absurd (omega (arith, le))

  ended : (n : ℕ) (states : List (Option Known)) (stack : List ℕ) → LoopHolds o crossed states stack
      → work_left states stack ≤ n → Ended
  unfolding Ended
  ended zero states stack h le = (states, subst (LoopHolds o crossed states) (nothing_left states stack le) h)
  ended (suc n) states stack h le = turn n states stack (λ x y g few. ended n x y g few) h le

  pub least_exists : (states : List (Option Known)) × HasLeast o crossed states
  unfolding Ended
  least_exists =
      let size = length o.code in
      let empty : List (Option Known) = replicate size None in
      let first = set empty 0 (Some start_known) in
      let e = ended (work_left first (0 ∷ [])) first (0 ∷ [])
      (loop_begun o crossed empty (length-replicate size None) range.code_size.0 (nothing size)) (omega arith) in
      (e.0, least_ended o crossed e.0 e.1)
    where
      nothing : (size p : ℕ) → get_or (replicate size (let x : Option Known = None in x)) p None ≡ None
      nothing size p =
          ⊎_elim (λ (lt : p < size). get_or-replicate size p (let x : Option Known = None in x) None lt)
          (λ (le : size ≤ p). get_or_past (replicate size (let x : Option Known = None in x)) p None
          (omega (arith, le, length-replicate size (let x : Option Known = None in x))))
          (cases_lt p size)

-- whether a branch may join
module _ (o : Parts) (crossed : List ℕ) (states : List (Option Known)) where
  MayOrNot : ℕ → Type 0
  MayOrNot p = MayJoin o crossed (at_places states) p ⊎ (¬ MayJoin o crossed (at_places states) p)

  shaped : (p : ℕ) (k : Known) (b : Branch) → at_places states p ≡ Some k → is_crossed crossed p ≡ false
      → BranchIsAt o p b → (is_secret k b.ra || is_secret k b.rb) ≡ true
      → IsCarriedSome o p b.offset k ⊎ ((join : ℕ) (next : Known) → JoinsIn o p b.offset k join next → ⊥) → MayOrNot p
  unfolding MayOrNot
  shaped p k b at apart stands secret (inl c) =
      inl (carried_joins o crossed states p k b c.join c.next at apart stands secret c.carried).may
  shaped p k b at apart stands secret (inr none) = inr (unshaped_stays o crossed states p k b at stands none)

  secret_or_not : (p : ℕ) (k : Known) (b : Branch) → at_places states p ≡ Some k → is_crossed crossed p ≡ false
      → BranchIsAt o p b → (s : Bool) → (is_secret k b.ra || is_secret k b.rb) ≡ s → MayOrNot p
  unfolding MayOrNot
  secret_or_not p k b at apart stands true e = shaped p k b at apart stands e (carried_or_not o p b.offset k)
  secret_or_not p k b at apart stands false e = inr (public_stays o crossed states p k b at stands e)

  by_branch : (p : ℕ) (k : Known) → at_places states p ≡ Some k → is_crossed crossed p ≡ false → (i : Instr)
      → slice_get o.code p ≡ Some i → Leads i → MayOrNot p
  unfolding MayOrNot
  by_branch p k at apart i code (GoesOn g) =
      inr (other_stays o crossed states p i code (λ c ra rb x e. br_not c ra rb x i e g))
  by_branch p k at apart i code (Halts e) =
      inr (other_stays o crossed states p i code (λ c ra rb x f. halt_not c ra rb x (sym e ∙ f)))
  by_branch p k at apart i code (Jumps y e) =
      inr (other_stays o crossed states p i code (λ c ra rb x f. jump_not y c ra rb x (sym e ∙ f)))
  by_branch p k at apart i code (Branches cmp ra rb offset e) =
      let b : Branch = record { ra = ra; rb = rb; offset = offset } in
      secret_or_not p k b at apart (record { cmp = cmp; at = code ∙ ap Some e }) (is_secret k ra || is_secret k rb) refl

  by_crossing : (p : ℕ) (k : Known) → p < length o.code → at_places states p ≡ Some k → (c : Bool)
      → is_crossed crossed p ≡ c → MayOrNot p
  unfolding MayOrNot
  by_crossing p k lt at true among = inr (crossed_stays o crossed states p among)
  by_crossing p k lt at false apart =
      let i = get_or o.code p Nop in
      by_branch p k at apart i (slice_get-get_or o.code p Nop lt) (leads i)

  by_known : (p : ℕ) → p < length o.code → (x : Option Known) → at_places states p ≡ x → MayOrNot p
  unfolding MayOrNot
  by_known p lt None none = inr (unreached_stays o crossed states p none)
  by_known p lt (Some k) at = by_crossing p k lt at (is_crossed crossed p) refl

  may_or_not : (p : ℕ) → p < length o.code → MayOrNot p
  may_or_not p lt = by_known p lt (at_places states p) refl

  -- the lowest that may
  pub record IsLowest : Type 0 where
    pub place : ℕ
    pub inside : place < length o.code
    pub may : MayJoin o crossed (at_places states) place
    pub lowest : (q : ℕ) → q < place → ¬ MayJoin o crossed (at_places states) q

  lowest_below : (n : ℕ) → n ≤ length o.code
      → IsLowest ⊎ ((q : ℕ) → q < n → ¬ MayJoin o crossed (at_places states) q)
  unfolding MayOrNot
  lowest_below zero le = inr (λ q lt. absurd (omega (arith, lt)))
  lowest_below (suc n) le = by (lowest_below n (omega (arith, le))) (may_or_not n (omega (arith, le)))
    where
      by : IsLowest ⊎ ((q : ℕ) → q < n → ¬ MayJoin o crossed (at_places states) q) → MayOrNot n
          → IsLowest ⊎ ((q : ℕ) → q < suc n → ¬ MayJoin o crossed (at_places states) q)
      by (inl found) here = inl found
      by (inr none) (inl may) = inl (record { place = n; inside = omega (arith, le); may = may; lowest = none })
      by (inr none) (inr not_here) = inr (λ q lt.
          ⊎_elim (λ (e : q ≡ n). subst (λ (x : ℕ). ¬ MayJoin o crossed (at_places states) x) (sym e) not_here)
          (λ (ne : q ≡ n → ⊥). none q (omega (arith, lt, ne))) (cases_eq q n))

  pub lowest_or_none : IsLowest ⊎ ((q : ℕ) → ¬ MayJoin o crossed (at_places states) q)
  lowest_or_none = by (lowest_below (length o.code) (omega arith))
    where
      by : IsLowest ⊎ ((q : ℕ) → q < length o.code → ¬ MayJoin o crossed (at_places states) q)
          → IsLowest ⊎ ((q : ℕ) → ¬ MayJoin o crossed (at_places states) q)
      by (inl found) = inl found
      by (inr none) = inr (λ q h. none q (slice_get_within o.code q (Br h.cmp h.ra h.rb h.offset) h.branch) h)

-- branches join until none may
pub record LastExists (o : Parts) : Type 0 where
  pub crossed : List ℕ
  pub states : List (Option Known)
  pub last : HasLast o crossed states

module _ (o : Parts) (range : IsInRange o) (n : ℕ)
    (again : (crossed : List ℕ) (states : List (Option Known)) → HasGrown o crossed → HasLeast o crossed states
    → places_left (length o.code) crossed < n → LastExists o)
    (crossed : List ℕ) (states : List (Option Known)) (was : HasGrown o crossed) (has : HasLeast o crossed states)
    (lt : places_left (length o.code) crossed < suc n) where
  one_more : IsLowest o crossed states ⊎ ((q : ℕ) → ¬ MayJoin o crossed (at_places states) q) → LastExists o
  one_more (inr none) = record {
    crossed = crossed;
    states = states;
    last = record { last = record { grown = was; least = has.least; done = none }; has = has };
  }
  one_more (inl l) =
      let next = least_exists o (l.place ∷ crossed) range in
      again (l.place ∷ crossed) next.0 (Joins crossed (at_places states) l.place was has.least l.may l.lowest) next.1
      (omega (arith, lt, left_less (length o.code) crossed l.place l.inside l.may.apart))

grown : (o : Parts) → IsInRange o → (n : ℕ) (crossed : List ℕ) (states : List (Option Known)) → HasGrown o crossed
    → HasLeast o crossed states → places_left (length o.code) crossed < n → LastExists o
grown o range zero crossed states was has lt = absurd (omega (arith, lt))
grown o range (suc n) crossed states was has lt =
    one_more o range n (λ c s w h few. grown o range n c s w h few) crossed states was has lt
    (lowest_or_none o crossed states)

pub last_exists : (o : Parts) → IsInRange o → LastExists o
last_exists o range =
    let first = least_exists o [] range in
    grown o range (suc (places_left (length o.code) [])) [] first.0 NoneYet first.1 (omega arith)
