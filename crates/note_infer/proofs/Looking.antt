-- One place is looked at, by its instruction, and what its ways are.
use Rattle.std.proofs.Common.{◌≡◌, ℕ, ◌+◌, ◌-◌, ◌<◌, true, false, ℤ, List, length, slice_get, get_or, set, ◌⊎◌, inl, inr, Option, Some, None, refl, sym, ap, ◌∙◌, subst, ⊎_elim, arith, get_or-set_same, get_or-set_other}
use Rattle.std.specs.Prelude.{IfSome}
use Rattle.std.proofs.lemmas.Bool.{false≢true, cases_eq}
use Rattle.gr_word.specs.declared.operations.Cmp.{Cmp}
use Rattle.lt_isa.specs.declared.instructions.Instr.{Instr}
use Rattle.lt_isa.specs.declared.instructions.Instr.TheVariants.{Halt, Jmp, Br}
use Rattle.lt_isa.specs.Prelude.{Parts, target_of}
use Rattle.trace_patterns.specs.Prelude.{Known, only_goes_on, known_behind, JoinsIn, at_entry, known_after}
use Rattle.note_infer.specs.Prelude.{is_crossed, PublicWay, Next, Skips, Branches, Jumps, Crosses, IsAtLeast, IsFull, at_places, Enough, More, BringsInside, InCode, Outside, AllFull, Waits, Looks, IsRaisedTo}
use Rattle.region_walk.specs.Prelude.{IsNextStep, BranchStands, IsCarriedTo}
use Rattle.note_infer.proofs.UnderWay.{under_way-left}
use Rattle.note_infer.proofs.Lower.{lower-own, lower-fits, known-lower, entry-below, after-lower}
use Rattle.note_infer.proofs.CarriedLower.{over-below}
use Rattle.trace_patterns.proofs.Carries.{instr-once, offset_once, over-once}
use Rattle.note_infer.proofs.Following.{brings-there, brings-keeps, brings-size, Follows, Nowhere, Further, looked}
use Rattle.note_infer.proofs.SameParts.{same_jump}
use Rattle.region_walk.specs.declared.next_steps.NextStep.TheVariants as kind

-- the state at a place has its registers and slots, if there is one
pub full_at : (states : List (Option Known)) (place : ℕ) → AllFull states → IfSome (get_or states place None) IsFull
full_at states place full = by (get_or states place None) (full place)
  where
    by : (x : Option Known) → ((k : Known) → x ≡ Some k → IsFull k) → IfSome x IsFull
    by None h = tt
    by (Some k) h = h k refl

pub br_not : {A : Type 0} (c : Cmp) (ra rb : ℕ) (x : ℤ) (i : Instr) → i ≡ Br c ra rb x → only_goes_on i ≡ true → A
br_not c ra rb x i e goes = absurd (false≢true (ap only_goes_on (sym e) ∙ goes))

pub jmp_not : {A : Type 0} (x : ℤ) (i : Instr) → i ≡ Jmp x → only_goes_on i ≡ true → A
jmp_not x i e goes = absurd (false≢true (ap only_goes_on (sym e) ∙ goes))

module _ (o : Parts) (crossed : List ℕ) (place : ℕ) (k : Known) (before : List (Option Known)) (stack : List ℕ)
    (at : at_places before place ≡ Some k) (full : IsFull k) (size : length before ≡ length o.code)
    (here : place < length before) where
  own : IsAtLeast (at_places before) place k
  own = record { known = k; is = at; above = lower-fits k k (lower-own k full) }

  Followed : List (Option Known) → List ℕ → Type 0
  Followed after rest = Follows o crossed place k before stack after rest

  -- one more way is followed
  follow : (mid : List (Option Known)) (between : List ℕ) (q : ℕ) (next : Known) (after : List (Option Known))
      (rest : List ℕ) → Followed mid between → length mid ≡ length before
      → (q < length o.code → PublicWay o crossed place k q next) → IsFull next
      → BringsInside mid between q next after rest
      → Followed after rest
  unfolding Followed
  follow mid between q next after rest f same way next_full (InCode a r lt brings) =
      Further mid between q next after rest f (way (omega (arith, same, size))) next_full (omega (arith, same)) brings
  follow mid between q next after rest f same way next_full (Outside le) = f

  there : (mid : List (Option Known)) (between : List ℕ) (q : ℕ) (next : Known) (after : List (Option Known))
      (rest : List ℕ) → length mid ≡ length before → IsFull next → BringsInside mid between q next after rest
      → q < length o.code → IsAtLeast (at_places after) q next
  there mid between q next after rest same next_full (InCode a r lt brings) inside =
      brings-there mid between q next lt next_full after rest brings
  there mid between q next after rest same next_full (Outside le) inside = absurd (omega (arith, same, size))

  kept : (mid : List (Option Known)) (between : List ℕ) (q : ℕ) (next : Known) (after : List (Option Known))
      (rest : List ℕ) → IsFull next → BringsInside mid between q next after rest → (x : ℕ) (low : Known)
      → IsAtLeast (at_places mid) x low → IsAtLeast (at_places after) x low
  kept mid between q next after rest next_full (InCode a r lt brings) x low h =
      brings-keeps mid between q next lt next_full after rest brings x low h
  kept mid between q next after rest next_full (Outside le) x low h = h

  sized : (mid : List (Option Known)) (between : List ℕ) (q : ℕ) (next : Known) (after : List (Option Known))
      (rest : List ℕ) → IsFull next → BringsInside mid between q next after rest → length after ≡ length mid
  sized mid between q next after rest next_full (InCode a r lt brings) =
      brings-size mid between q next lt next_full after rest brings
  sized mid between q next after rest next_full (Outside le) = refl

  -- an instruction that only continues at the next place
  pub looks_on : (i : Instr) (after : List (Option Known)) (rest : List ℕ) → slice_get o.code place ≡ Some i
      → only_goes_on i ≡ true → BringsInside before stack (place + 1) (known_behind k i) after rest
      → Looks o crossed place before stack after rest
  unfolding Followed
  looks_on i after rest code goes brings =
      let next_full = (known-lower k k i (lower-own k full)).low_full in
      looked o crossed place k before stack own full after rest
      (follow before stack (place + 1) (known_behind k i) after rest Nowhere refl
      (λ inside. Next place k (place + 1) (known_behind k i) i code goes refl inside refl) next_full brings) here at
      (λ q next way. by next_full brings q next way)
    where
      by : IsFull (known_behind k i) → BringsInside before stack (place + 1) (known_behind k i) after rest → (q : ℕ)
          (next : Known) → PublicWay o crossed place k q next → IsAtLeast (at_places after) q next
      by f b q next (Next p' k' q' n' j c g to inside is) =
          let e : j ≡ i = instr-once o place j i c code in
          subst (IsAtLeast (at_places after) q) (sym (is ∙ ap (known_behind k) e))
          (subst (λ (x : ℕ). IsAtLeast (at_places after) x (known_behind k i)) (sym to)
          (there before stack (place + 1) (known_behind k i) after rest refl f b
          (subst (λ (x : ℕ). x < length o.code) to inside)))
      by f b q next (Skips p' k' q' n' cmp ra rb x c apart to inside is) =
          br_not cmp ra rb x i (instr-once o place i (Br cmp ra rb x) code c) goes
      by f b q next (Branches p' k' q' n' cmp ra rb x c apart to inside is) =
          br_not cmp ra rb x i (instr-once o place i (Br cmp ra rb x) code c) goes
      by f b q next (Jumps p' k' q' n' x c to inside is) =
          jmp_not x i (instr-once o place i (Jmp x) code c) goes
      by f b q next (Crosses p' k' q' n' cmp ra rb x c among joins) =
          br_not cmp ra rb x i (instr-once o place i (Br cmp ra rb x) code c) goes

  pub looks_halt : slice_get o.code place ≡ Some Halt → Looks o crossed place before stack before stack
  unfolding Followed
  looks_halt code = looked o crossed place k before stack own full before stack Nowhere here at by
    where
      by : (q : ℕ) (next : Known) → PublicWay o crossed place k q next → IsAtLeast (at_places before) q next
      by q next (Next p' k' q' n' j c g to inside is) =
          absurd (false≢true (ap only_goes_on (instr-once o place Halt j code c) ∙ g))
      by q next (Skips p' k' q' n' cmp ra rb x c apart to inside is) =
          absurd (let f = instr-once o place Halt (Br cmp ra rb x) code c in cc)
      by q next (Branches p' k' q' n' cmp ra rb x c apart to inside is) =
          absurd (let f = instr-once o place Halt (Br cmp ra rb x) code c in cc)
      by q next (Jumps p' k' q' n' x c to inside is) =
          absurd (let f = instr-once o place Halt (Jmp x) code c in cc)
      by q next (Crosses p' k' q' n' cmp ra rb x c among joins) =
          absurd (let f = instr-once o place Halt (Br cmp ra rb x) code c in cc)

  pub looks_jump : (offset : ℤ) (after : List (Option Known)) (rest : List ℕ) → slice_get o.code place ≡ Some
      (Jmp offset)
      → BringsInside before stack (target_of o place offset) k after rest
      → Looks o crossed place before stack after rest
  unfolding Followed
  looks_jump offset after rest code brings =
      looked o crossed place k before stack own full after rest
      (follow before stack (target_of o place offset) k after rest Nowhere refl
      (λ inside. Jumps place k (target_of o place offset) k offset code refl inside refl) full brings) here at by
    where
      by : (q : ℕ) (next : Known) → PublicWay o crossed place k q next → IsAtLeast (at_places after) q next
      by q next (Next p' k' q' n' j c g to inside is) =
          absurd (false≢true (ap only_goes_on (instr-once o place (Jmp offset) j code c) ∙ g))
      by q next (Skips p' k' q' n' cmp ra rb x c apart to inside is) =
          absurd (let f = instr-once o place (Jmp offset) (Br cmp ra rb x) code c in cc)
      by q next (Branches p' k' q' n' cmp ra rb x c apart to inside is) =
          absurd (let f = instr-once o place (Jmp offset) (Br cmp ra rb x) code c in cc)
      by q next (Jumps p' k' q' n' x c to inside is) =
          let e : x ≡ offset = same_jump x offset (instr-once o place (Jmp x) (Jmp offset) c code) in
          let same : q ≡ target_of o place offset = to ∙ ap (target_of o place) e in
          subst (IsAtLeast (at_places after) q) (sym is)
          (subst (λ (y : ℕ). IsAtLeast (at_places after) y k) (sym same)
          (there before stack (target_of o place offset) k after rest refl full brings
          (subst (λ (y : ℕ). y < length o.code) same inside)))
      by q next (Crosses p' k' q' n' cmp ra rb x c among joins) =
          absurd (let f = instr-once o place (Jmp offset) (Br cmp ra rb x) code c in cc)

  pub looks_branch : (cmp : Cmp) (ra rb : ℕ) (offset : ℤ) (mid : List (Option Known)) (between : List ℕ)
      (after : List (Option Known)) (rest : List ℕ) → slice_get o.code place ≡ Some (Br cmp ra rb offset)
      → is_crossed crossed place ≡ false → BringsInside before stack (place + 1) k mid between
      → BringsInside mid between (target_of o place offset) k after rest → Looks o crossed place before stack after rest
  unfolding Followed
  looks_branch cmp ra rb offset mid between after rest code apart one two =
      let same = sized before stack (place + 1) k mid between full one in
      looked o crossed place k before stack own full after rest
      (follow mid between (target_of o place offset) k after rest
      (follow before stack (place + 1) k mid between Nowhere refl
      (λ inside. Skips place k (place + 1) k cmp ra rb offset code apart refl inside refl) full one) same
      (λ inside. Branches place k (target_of o place offset) k cmp ra rb offset code apart refl inside refl) full two)
      here at (by same)
    where
      by : length mid ≡ length before → (q : ℕ) (next : Known) → PublicWay o crossed place k q next
          → IsAtLeast (at_places after) q next
      by same q next (Next p' k' q' n' j c g to inside is) =
          br_not cmp ra rb offset j (instr-once o place j (Br cmp ra rb offset) c code) g
      by same q next (Skips p' k' q' n' d sa sb x c apart' to inside is) =
          subst (IsAtLeast (at_places after) q) (sym is)
          (subst (λ (y : ℕ). IsAtLeast (at_places after) y k) (sym to)
          (kept mid between (target_of o place offset) k after rest full two (place + 1) k
          (there before stack (place + 1) k mid between refl full one (subst (λ
          (y : ℕ). y < length o.code) to inside))))
      by same q next (Branches p' k' q' n' d sa sb x c apart' to inside is) =
          let e : x ≡ offset = offset_once d cmp sa sb ra rb x offset
          (instr-once o place (Br d sa sb x) (Br cmp ra rb offset) c code) in
          let goal : q ≡ target_of o place offset = to ∙ ap (target_of o place) e in
          subst (IsAtLeast (at_places after) q) (sym is)
          (subst (λ (y : ℕ). IsAtLeast (at_places after) y k) (sym goal)
          (there mid between (target_of o place offset) k after rest same full two
          (subst (λ (y : ℕ). y < length o.code) goal inside)))
      by same q next (Jumps p' k' q' n' x c to inside is) =
          absurd (let f = instr-once o place (Br cmp ra rb offset) (Jmp x) code c in cc)
      by same q next (Crosses p' k' q' n' d sa sb x c among joins) = absurd (false≢true (sym apart ∙ among))

  -- a branch that is crossed leads only to its join
  ways-cross : (cmp : Cmp) (ra rb : ℕ) (offset : ℤ) (P : ℕ → Known → Type 0)
      → slice_get o.code place ≡ Some (Br cmp ra rb offset) → is_crossed crossed place ≡ true
      → ((q : ℕ) (n : Known) → JoinsIn o place offset k q n → P q n)
      → (q : ℕ) (n : Known) → PublicWay o crossed place k q n → P q n
  ways-cross cmp ra rb offset P code among joining q n (Next p' k' q' n' j c g to inside is) =
      br_not cmp ra rb offset j (instr-once o place j (Br cmp ra rb offset) c code) g
  ways-cross cmp ra rb offset P code among joining q n (Skips p' k' q' n' d sa sb x c apart to inside is) =
      absurd (false≢true (sym apart ∙ among))
  ways-cross cmp ra rb offset P code among joining q n (Branches p' k' q' n' d sa sb x c apart to inside is) =
      absurd (false≢true (sym apart ∙ among))
  ways-cross cmp ra rb offset P code among joining q n (Jumps p' k' q' n' x c to inside is) =
      absurd (let f = instr-once o place (Br cmp ra rb offset) (Jmp x) code c in cc)
  ways-cross cmp ra rb offset P code among joining q n (Crosses p' k' q' n' d sa sb x c among' j) =
      let e : x ≡ offset = offset_once d cmp sa sb ra rb x offset
      (instr-once o place (Br d sa sb x) (Br cmp ra rb offset) c code) in
      joining q n (subst (λ (z : ℤ). JoinsIn o place z k q n) e j)

  pub looks_over : (cmp : Cmp) (ra rb : ℕ) (offset : ℤ) (join : ℕ) (next : Known) (after : List (Option Known))
      (rest : List ℕ) → slice_get o.code place ≡ Some (Br cmp ra rb offset) → is_crossed crossed place ≡ true
      → JoinsIn o place offset k join next → IsFull next → BringsInside before stack join next after rest
      → join < length o.code → Looks o crossed place before stack after rest
  unfolding Followed
  looks_over cmp ra rb offset join next after rest code among joins next_full brings inside =
      looked o crossed place k before stack own full after rest
      (follow before stack join next after rest Nowhere refl
      (λ within. Crosses place k join next cmp ra rb offset code among joins) next_full brings) here at
      (ways-cross cmp ra rb offset (IsAtLeast (at_places after)) code among by)
    where
      by : (q : ℕ) (n : Known) → JoinsIn o place offset k q n → IsAtLeast (at_places after) q n
      by q n there' =
          let same = over-once o 0 (length o.code - 1) place offset (at_entry k) q join there'.state joins.state
          there'.over joins.over in
          let known : n ≡ next = there'.next_is ∙ ap known_after same.1 ∙ sym joins.next_is in
          subst (λ (y : ℕ). IsAtLeast (at_places after) y n) (sym same.0)
          (subst (IsAtLeast (at_places after) join) (sym known)
          (there before stack join next after rest refl next_full brings inside))

  -- and nowhere, where nothing is carried over its region
  pub looks_nowhere : (cmp : Cmp) (ra rb : ℕ) (offset : ℤ) → slice_get o.code place ≡ Some (Br cmp ra rb offset)
      → is_crossed crossed place ≡ true → ((join : ℕ) (next : Known) → JoinsIn o place offset k join next → ⊥)
      → Looks o crossed place before stack before stack
  unfolding Followed
  looks_nowhere cmp ra rb offset code among none =
      looked o crossed place k before stack own full before stack Nowhere here at
      (ways-cross cmp ra rb offset (IsAtLeast (at_places before)) code among (λ q n joins. absurd (none q n joins)))

-- the state after an instruction has its registers and slots
pub full_behind : (k : Known) (i : Instr) → IsFull k → IsFull (known_behind k i)
full_behind k i full = (known-lower k k i (lower-own k full)).low_full

-- so has what is carried over a region
pub full_joined : (o : Parts) (p : ℕ) (offset : ℤ) (k : Known) (join : ℕ) (next : Known) → IsFull k
    → JoinsIn o p offset k join next → IsFull next
full_joined o p offset k join next full joins =
    let m = over-below o 0 (length o.code - 1) p offset (at_entry k) join joins.state (at_entry k) joins.over
    (entry-below k k (lower-own k full)) in
    subst IsFull (sym joins.next_is) (after-lower m.state joins.state m.below).high_full

-- what was brought is full
pub full_brought : (states : List (Option Known)) (stack : List ℕ) (place : ℕ) (next : Known)
    (after : List (Option Known)) (rest : List ℕ) → AllFull states → IsFull next
    → BringsInside states stack place next after rest → AllFull after
full_brought states stack place next after rest full also (Outside le) = full
full_brought states stack place next after rest full also (InCode a r lt (Enough h)) = full
full_brought states stack place next after rest full also (InCode a r lt (More high h)) = λ p k e.
    ⊎_elim
    (λ (at : p ≡ place).
    let f : ◌≡◌ {A = Option Known} (Some high) (Some k) =
    sym (get_or-set_same states place (Some high) None lt)
    ∙ ap (λ (x : ℕ). get_or (set states place (Some high)) x None) (sym at) ∙ e in
    let same : high ≡ k = cc in
    subst IsFull same (raised (get_or states place None) high h))
    (λ (ne : p ≡ place → ⊥). full p k (sym (get_or-set_other states place p (Some high) None ne) ∙ e))
    (cases_eq p place)
  where
    raised : (old : Option Known) (x : Known) → IsRaisedTo old next (Some x) → IsFull x
    raised None x e = subst IsFull (sym e) also
    raised (Some old) x g = g.0.full

-- a place where nothing is known has no ways yet
pub looks_none : (o : Parts) (crossed : List ℕ) (place : ℕ) (before : List (Option Known)) (stack : List ℕ)
    → get_or before place None ≡ None → Looks o crossed place before stack before stack
looks_none o crossed place before stack at = record {
  size = refl;
  room = omega arith;
  inside = λ old x w. old x w;
  under_way = λ u. under_way-left o crossed (at_places before) (λ x. Waits stack x ⊎ (x ≡ place))
      (Waits stack) place u swap
      (λ q k next e way. absurd (let f : ◌≡◌ {A = Option Known} None (Some k) = sym at ∙ e in cc));
  sound = λ range all. all;
  waits = λ x w. w;
  same = λ x. inl refl;
}
  where
    swap : (x : ℕ) → Waits stack x ⊎ (x ≡ place) → (x ≡ place) ⊎ Waits stack x
    swap x (inl w) = inr w
    swap x (inr e) = inl e

-- a branch, for any comparison
pub looks_branch_at : (o : Parts) (crossed : List ℕ) (place : ℕ) (k : Known) (before : List (Option Known))
    (stack : List ℕ)
    (at : at_places before place ≡ Some k) (full : IsFull k) (size : length before ≡ length o.code)
    (here : place < length before) (offset : ℤ) (mid : List (Option Known)) (between : List ℕ)
    (after : List (Option Known)) (rest : List ℕ) → BranchStands o place offset
    → is_crossed crossed place ≡ false → BringsInside before stack (place + 1) k mid between
    → BringsInside mid between (target_of o place offset) k after rest → Looks o crossed place before stack after rest
looks_branch_at o crossed place k before stack at full size here offset mid between after rest b apart one two =
    looks_branch o crossed place k before stack at full size here b.cmp b.ra b.rb offset mid between after rest b.at
    apart
    one two

pub branches_at : (o : Parts) (place : ℕ) (i : Instr) (offset : ℤ) → slice_get o.code place ≡ Some i
    → IsNextStep i (kind.Branches offset) → BranchStands o place offset
branches_at o place i offset at h =
    record { cmp = h.0; ra = h.1; rb = h.2; at = at ∙ ap Some h.3 }

pub jumps_at : (o : Parts) (place : ℕ) (i : Instr) (offset : ℤ) → slice_get o.code place ≡ Some i
    → IsNextStep i (kind.Jumps offset) → slice_get o.code place ≡ Some (Jmp offset)
jumps_at o place i offset at h = at ∙ ap Some h

pub looks_halt_at : (o : Parts) (crossed : List ℕ) (place : ℕ) (k : Known) (before : List (Option Known))
    (stack : List ℕ) (i : Instr)
    → AllFull before → at_places before place ≡ Some k → length before ≡ length o.code → place < length before
    → slice_get o.code place ≡ Some i → IsNextStep i kind.Halts → Looks o crossed place before stack before stack
looks_halt_at o crossed place k before stack i full at size here code h =
    looks_halt o crossed place k before stack at (full place k at) size here (code ∙ ap Some h)

-- what is carried over the region of a branch that is crossed is brought to its join, if to anything
pub looks_over_at : (o : Parts) (crossed : List ℕ) (place : ℕ) (k : Known) (before : List (Option Known))
    (stack : List ℕ) (at : at_places before place ≡ Some k) (full : IsFull k) (size : length before ≡ length o.code)
    (here : place < length before) (offset : ℤ) (join : ℕ) (next : Known) (after : List (Option Known))
    (rest : List ℕ) → BranchStands o place offset → is_crossed crossed place ≡ true
    → IsCarriedTo o place offset k join next → BringsInside before stack join next after rest
    → Looks o crossed place before stack after rest
looks_over_at o crossed place k before stack at full size here offset join next after rest b among h brings =
    looks_over o crossed place k before stack at full size here b.cmp b.ra b.rb offset join next after rest b.at among
    h.joins (full_joined o place offset k join next full h.joins) brings h.inside

pub looks_nowhere_at : (o : Parts) (crossed : List ℕ) (place : ℕ) (k : Known) (before : List (Option Known))
    (stack : List ℕ) (at : at_places before place ≡ Some k) (full : IsFull k) (size : length before ≡ length o.code)
    (here : place < length before) (offset : ℤ) → BranchStands o place offset → is_crossed crossed place ≡ true
    → ((join : ℕ) (next : Known) → JoinsIn o place offset k join next → ⊥)
    → Looks o crossed place before stack before stack
looks_nowhere_at o crossed place k before stack at full size here offset b among none =
    looks_nowhere o crossed place k before stack at full size here b.cmp b.ra b.rb offset b.at among none
