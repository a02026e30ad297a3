-- Runs of the code of a branch on a secret, and of all secret code: a run turns a store into the one that the statement
-- leaves, or leaves it as it was in a mirrored arm.
use Rattle.std.proofs.Common.{◌≡◌, ℕ, zero, suc, ◌+◌, ◌-◌, Bool, true, false, pos, List, [], ◌∷◌, ◌++◌, length, take, drop, Option, Some, None, refl, sym, ap, ◌∙◌, subst, arith}
use Rattle.std.specs.Prelude.{if◌then◌else◌}
use Rattle.std.proofs.lemmas.List.{length-append}
use Rattle.gr_word.specs.Prelude.{compared}
use Rattle.gr_word.specs.declared.operations.Cmp.{Cmp}
use Rattle.lt_isa.specs.declared.instructions.Instr.{Instr}
use Rattle.lt_isa.specs.declared.instructions.Instr.TheVariants.{Jmp, Br}
use Rattle.lt_isa.specs.Prelude.{Parts, IsInRange, State, Observed, register, IsShaped, greatest_cost}
use Rattle.stretches.specs.Prelude.{StandsAt, greatest_costs, Comes, RunsThrough}
use Rattle.stretches.proofs.Standing.{standing-first, standing-rest, standing-head, standing-tail, greatest_costs-append}
use Rattle.stretches.proofs.Coming.{comes-both, comes-weaker, comes-jmp, comes-br_taken, comes-br_on}
use Rattle.src_tree.specs.declared.trees.Decl.{Decl}
use Rattle.src_tree.specs.Prelude.{context_of, label_of_test, LowStatement, LowBlock, Store, evaluated, guard_holds, Test, Statement, SetVariable, SetElement, Choice, Loop, Block, Nothing, Then, TypedTest, TypedStatement, TypedBlock}
use Rattle.src_tree.proofs.Loops.{left}
use Rattle.scalar_ranges.specs.Prelude.{AreWithin, AreOfPublic}
use Rattle.scalar_ranges.proofs.SecretCode.{secret-within, secret-within_block}
use Rattle.block_cache_gen.specs.declared.frames.Mode.{Mode}
use Rattle.block_cache_gen.specs.declared.frames.Mode.TheVariants.{Public, Real, Mirrored}
use Rattle.block_cache_gen.specs.Prelude.{Setting, HasHomes, guard_code, set_code, pair_count, StandsFor, FitsHomes, test_accesses, seen_of_all, Assigns, assigned, by_mode, seen_of_set, LeavesBoth, BeginsCode, Performs}
use Rattle.block_cache_gen.proofs.Stands.{stands-like}
use Rattle.block_cache_gen.proofs.RunsOf.{guard-evaluates, assignment-performs}
use Rattle.branch_padding.specs.Prelude.{effect_of, effect_of_block, Makes, idle, arm_mode, in_a_row, untaken_arm, taken_arm, first_arm, second_arm, first_of, second_of, region_code, padded_code, padded_codes, slack_of}
use Rattle.branch_padding.specs.declared.cycles.Slack.{Slack}
use Rattle.branch_padding.proofs.EffectsMean.{secret-typed, effect-means, effect_of_block-means}
use Rattle.branch_padding.proofs.Making.{KeepsWithin, each-keeps, begins-at, begun, makes-none, makes-same, makes-append, makes-idle, one_by_one, rest-behind, EachMakes, NoneMakes, OneMakes, row-makes, take-makes, drop-makes}
use Rattle.gr_word.specs.declared.variables.Label.TheVariants as label

-- what each statement of a block makes of a store, in code of a mode
abbrev pub effects_of : List Decl → Mode → Block → List (Store → Store)
effects_of decls mode Nothing = []
effects_of decls mode (Then s rest) =
    (λ store. by_mode mode (effect_of decls s store) store) ∷ effects_of decls mode rest

-- all of them are what the block makes of it; and of those of a mirrored arm each leaves it
effects-all : (decls : List Decl) (mode : Mode) (b : Block) (store : Store)
    → one_by_one (effects_of decls mode b) store ≡ by_mode mode (effect_of_block decls b store) store
effects-all decls Public Nothing store = refl
effects-all decls Public (Then s rest) store = effects-all decls Public rest (effect_of decls s store)
effects-all decls Real Nothing store = refl
effects-all decls Real (Then s rest) store = effects-all decls Real rest (effect_of decls s store)
effects-all decls Mirrored Nothing store = refl
effects-all decls Mirrored (Then s rest) store = effects-all decls Mirrored rest store

mirrored-stay : (decls : List Decl) (k : ℕ) (b : Block) (store : Store)
    → one_by_one (drop k (effects_of decls Mirrored b)) store ≡ store
mirrored-stay decls zero Nothing store = refl
mirrored-stay decls zero (Then s rest) store = mirrored-stay decls zero rest store
mirrored-stay decls (suc k) Nothing store = refl
mirrored-stay decls (suc k) (Then s rest) store = mirrored-stay decls k rest store

-- an arm has its effect where the branch has one
by-arm_mode : (mode : Mode) (x y : Store) → by_mode (arm_mode mode) x y ≡ by_mode mode x y
by-arm_mode Public x y = refl
by-arm_mode Real x y = refl
by-arm_mode Mirrored x y = refl

by-same : (mode : Mode) (x : Store) → x ≡ by_mode mode x x
by-same Public x = refl
by-same Real x = refl
by-same Mirrored x = refl

by-either : (mode : Mode) (h : Bool) (x y store : Store)
    → (if h then by_mode mode x store else by_mode mode y store) ≡ by_mode mode (if h then x else y) store
by-either mode true x y store = refl
by-either mode false x y store = refl

-- The region of two arms, from a state whose registers 0 and 1 compare so.
module _ (o : Parts) (f : Setting) (cmp : Cmp) (first second : List Instr) (g h : Store → Store)
    (one : Makes f first g) (two : Makes f second h) (store : Store) (s : State)
    (b : BeginsCode o f store s (region_code cmp first second)) where
  abbrev over : Instr
  over = Br cmp 0 1 (pos (length first + 2))

  abbrev jump : Instr
  jump = Jmp (pos (length second + 1))

  abbrev whole : List Instr
  whole = region_code cmp first second

  arms_at : StandsAt o (s.place + 1) (first ++ (jump ∷ second))
  arms_at = standing-tail over (first ++ (jump ∷ second)) b.code_stands

  jump_at : StandsAt o (s.place + 1 + length first) (jump ∷ second)
  jump_at = standing-rest first (jump ∷ second) arms_at

  costs-region : greatest_cost o over + (greatest_costs o first + (greatest_cost o jump + greatest_costs o second))
      ≡ greatest_costs o whole
  costs-region = omega (arith, greatest_costs-append o first (jump ∷ second))

  ends-region : s.place + 1 + length first + (length second + 1) ≡ s.place + length whole
  ends-region = omega (arith, length-append first (jump ∷ second))

  moved : (t u : State) (after : Store) → u.slots ≡ t.slots → u.banks ≡ t.banks
      → ((r : ℕ) → register u r ≡ register t r) → Assigns f after t → Assigns f after u
  moved t u after slots banks registers made =
      record { stands = stands-like f t u after slots banks (λ r high. registers r) made.stands; fits = made.fits }

  pub region-taken : compared cmp (register s 0) (register s 1) ≡ true
      → (shown : List Observed) × RunsThrough o s whole shown (Assigns f (h store))
  region-taken holds =
      let jumped = comes-br_taken o b.in_range s b.shaped cmp 0 1 (pos (length first + 2)) (Assigns f store)
      (standing-head over (first ++ (jump ∷ second)) b.code_stands) holds (moved s _ store refl refl (λ r. refl) (begun b)) in
      let there : s.place + 1 + length first + 1 ≡ jumped.end.place = omega (arith, jumped.comes) in
      let at : StandsAt o jumped.end.place second =
      subst (λ (p : ℕ). StandsAt o p second) there (standing-tail jump second jump_at) in
      let arm = two.runs o store jumped.end
      (begins-at store jumped.end second b b.within jumped.shaped jumped.holds at) in (
        arm.0,
        comes-weaker arm.0 (s.place + length whole) (greatest_costs o whole) (Assigns f (h store))
            (comes-both arm.0 jumped arm.1) refl
            (omega (arith, ends-region, jumped.comes)) (omega (arith, costs-region)) (λ t shape made. made),
      )

  pub region-passed : compared cmp (register s 0) (register s 1) ≡ false
      → (shown : List Observed) × RunsThrough o s whole shown (Assigns f (g store))
  region-passed fails =
      let on = comes-br_on o b.in_range s b.shaped cmp 0 1 (pos (length first + 2)) (Assigns f store)
      (standing-head over (first ++ (jump ∷ second)) b.code_stands) fails (moved s _ store refl refl (λ r. refl) (begun b)) in
      let at : StandsAt o on.end.place first =
      subst (λ (p : ℕ). StandsAt o p first) (sym on.comes) (standing-first first (jump ∷ second) arms_at) in
      let arm = one.runs o store on.end (begins-at store on.end first b b.within on.shaped on.holds at) in
      let u = arm.1.end in
      let there : s.place + 1 + length first ≡ u.place = omega (arith, on.comes, arm.1.comes) in
      let jump_there : StandsAt o u.place (jump ∷ second) =
      subst (λ (p : ℕ). StandsAt o p (jump ∷ second)) there jump_at in
      let jumped = comes-jmp o b.in_range u arm.1.shaped (pos (length second + 1)) (Assigns f (g store))
      (standing-head jump second jump_there) (moved u _ (g store) refl refl (λ r. refl) arm.1.holds) in
      let shown = arm.0 ++ [] in (
        shown,
        comes-weaker shown (s.place + length whole) (greatest_costs o whole) (Assigns f (g store))
            (comes-both shown on (comes-both [] arm.1 jumped)) refl
            (omega (arith, ends-region, there)) (omega (arith, costs-region)) (λ t shape made. made),
      )

  pub region-makes : (holds : Bool) → compared cmp (register s 0) (register s 1) ≡ holds
      → (shown : List Observed) × RunsThrough o s whole shown (Assigns f (if holds then h store else g store))
  region-makes true is = region-taken is
  region-makes false is = region-passed is

module _ (f : Setting) where
  -- a guard and the region after it
  pub guarded-makes : (mode : Mode) (t : Test) (before behind : List Instr) (g h : Store → Store)
      → TypedTest (context_of f.decls) t
      → LowStatement (Choice t Nothing Nothing) → Makes f before g → Makes f behind h
      → Makes f (guard_code f mode 0 t ++ region_code t.cmp before behind)
      (λ store. if guard_holds f.decls store t then h store else g store)
  guarded-makes mode t before behind g h typed low one two = record {
    runs = λ o store s b.
        let guard = guard_code f mode 0 t in
        let region = region_code t.cmp before behind in
        let shown = seen_of_all mode s.banks s.slots (test_accesses f store t) in
        let first : RunsThrough o s guard shown
        (LeavesBoth f store (test_accesses f store t) 0 (evaluated f.decls store t.left)
        (evaluated f.decls store t.right) s) =
        (guard-evaluates f mode 0 t typed (omega (arith, low.0.0)) (omega (arith, low.0.1))).runs o store s
        (begins-at store s guard b b.within b.shaped (begun b) (standing-first guard region b.code_stands)) in
        let u = first.end in
        let at : StandsAt o u.place region =
        subst (λ (p : ℕ). StandsAt o p region) (sym first.comes) (standing-rest guard region b.code_stands) in
        let is : compared t.cmp (register u 0) (register u 1) ≡ guard_holds f.decls store t =
        ap (λ v. compared t.cmp v (register u 1)) first.holds.first
        ∙ ap (λ v. compared t.cmp (evaluated f.decls store t.left) v) first.holds.second in
        let made : Assigns f store u = record { stands = first.holds.stands; fits = b.fits } in
        let rest = region-makes o f t.cmp before behind g h one two store u
        (begins-at store u region b b.within first.shaped made at) (guard_holds f.decls store t) is in
        let after = if guard_holds f.decls store t then h store else g store in (
          shown ++ rest.0,
          comes-weaker (shown ++ rest.0) (s.place + length (guard ++ region)) (greatest_costs o (guard ++ region))
              (Assigns f after)
              (comes-both rest.0 first rest.1) refl (omega (arith, length-append guard region, first.comes))
              (omega (arith, greatest_costs-append o guard region)) (λ v shape done. done),
        );
  }

  -- three rows in sequence
  rows-make : (xs ys zs : List (List Instr)) (g h k : List (Store → Store)) (after : Store → Store) → EachMakes f xs g
      → EachMakes f ys h → EachMakes f zs k
      → ((store : Store) → one_by_one k (one_by_one h (one_by_one g store)) ≡ after store)
      → Makes f (in_a_row xs ++ (in_a_row ys ++ in_a_row zs)) after
  rows-make xs ys zs g h k after first second third =
      makes-same f (in_a_row xs ++ (in_a_row ys ++ in_a_row zs))
      (λ store. one_by_one k (one_by_one h (one_by_one g store))) after
      (makes-append f (in_a_row xs) (in_a_row ys ++ in_a_row zs) (one_by_one g)
      (λ store. one_by_one k (one_by_one h store)) (row-makes f xs g first) (each-keeps f xs g first)
      (makes-append f (in_a_row ys) (in_a_row zs) (one_by_one h) (one_by_one k) (row-makes f ys h second)
      (each-keeps f ys h second) (row-makes f zs k third)))

  -- the arms of a branch, of parts whose statements make stores
  module _ (mode : Mode) (a b : Block) (k : ℕ) where
    untaken-makes : (second first_mirrored : List (List Instr))
        → EachMakes f second (effects_of f.decls (arm_mode mode) b)
        → EachMakes f first_mirrored (effects_of f.decls Mirrored a)
        → Makes f (untaken_arm k second first_mirrored)
        (λ store. by_mode mode (effect_of_block f.decls b store) store)
    untaken-makes second first_mirrored behind before =
        let own = effects_of f.decls (arm_mode mode) b in
        let other = effects_of f.decls Mirrored a in
        rows-make (take k second) (drop k first_mirrored) (drop k second) (take k own) (drop k other) (drop k own)
        (λ store. by_mode mode (effect_of_block f.decls b store) store) (take-makes f k second own behind)
        (drop-makes f k first_mirrored other before) (drop-makes f k second own behind)
        (λ store.
        ap (one_by_one (drop k own)) (mirrored-stay f.decls k a (one_by_one (take k own) store))
        ∙ rest-behind k own store
        ∙ effects-all f.decls (arm_mode mode) b store
        ∙ by-arm_mode mode (effect_of_block f.decls b store) store)

    taken-makes : (first second_mirrored : List (List Instr))
        → EachMakes f first (effects_of f.decls (arm_mode mode) a)
        → EachMakes f second_mirrored (effects_of f.decls Mirrored b)
        → Makes f (taken_arm k first second_mirrored) (λ store. by_mode mode (effect_of_block f.decls a store) store)
    taken-makes first second_mirrored before behind =
        let own = effects_of f.decls (arm_mode mode) a in
        let other = effects_of f.decls Mirrored b in
        rows-make (take k first) (drop k first) (drop k second_mirrored) (take k own) (drop k own) (drop k other)
        (λ store. by_mode mode (effect_of_block f.decls a store) store) (take-makes f k first own before)
        (drop-makes f k first own before) (drop-makes f k second_mirrored other behind)
        (λ store.
        mirrored-stay f.decls k b (one_by_one (drop k own) (one_by_one (take k own) store))
        ∙ rest-behind k own store
        ∙ effects-all f.decls (arm_mode mode) a store
        ∙ by-arm_mode mode (effect_of_block f.decls a store) store)

    -- the row of a part makes what the part does
    row-own : (part : Block) (codes : List (List Instr)) → EachMakes f codes (effects_of f.decls (arm_mode mode) part)
        → Makes f (in_a_row codes) (λ store. by_mode mode (effect_of_block f.decls part store) store)
    row-own part codes each =
        makes-same f (in_a_row codes) (one_by_one (effects_of f.decls (arm_mode mode) part))
        (λ store. by_mode mode (effect_of_block f.decls part store) store)
        (row-makes f codes (effects_of f.decls (arm_mode mode) part) each)
        (λ store.
        effects-all f.decls (arm_mode mode) part store ∙ by-arm_mode mode (effect_of_block f.decls part store) store)

    -- both arms, mirrored or idling
    pub first_arm-makes : (slack : Option Slack) (taken : ℕ) (second first_mirrored : List (List Instr))
        → KeepsWithin f (λ store. by_mode mode (effect_of_block f.decls b store) store)
        → EachMakes f second (effects_of f.decls (arm_mode mode) b)
        → EachMakes f first_mirrored (effects_of f.decls Mirrored a)
        → Makes f (first_arm slack taken k second first_mirrored)
        (λ store. by_mode mode (effect_of_block f.decls b store) store)
    first_arm-makes None taken second first_mirrored kept behind before =
        makes-append f (idle (taken - 1)) (untaken_arm k second first_mirrored) (λ store. store)
        (λ store. by_mode mode (effect_of_block f.decls b store) store) (makes-idle f (taken - 1)) (λ store are. are)
        (untaken-makes second first_mirrored behind before)
    first_arm-makes (Some w) taken second first_mirrored kept behind before =
        makes-append f (in_a_row second) (idle w.untaken)
        (λ store. by_mode mode (effect_of_block f.decls b store) store) (λ store. store) (row-own b second behind)
        kept (makes-idle f w.untaken)

    pub second_arm-makes : (slack : Option Slack) (taken : ℕ) (first second_mirrored : List (List Instr))
        → KeepsWithin f (λ store. by_mode mode (effect_of_block f.decls a store) store)
        → EachMakes f first (effects_of f.decls (arm_mode mode) a)
        → EachMakes f second_mirrored (effects_of f.decls Mirrored b)
        → Makes f (second_arm slack taken k first second_mirrored)
        (λ store. by_mode mode (effect_of_block f.decls a store) store)
    second_arm-makes None taken first second_mirrored kept before behind =
        makes-append f (taken_arm k first second_mirrored) (idle taken)
        (λ store. by_mode mode (effect_of_block f.decls a store) store) (λ store. store)
        (taken-makes first second_mirrored before behind) kept (makes-idle f taken)
    second_arm-makes (Some w) taken first second_mirrored kept before behind =
        makes-append f (in_a_row first) (idle w.taken)
        (λ store. by_mode mode (effect_of_block f.decls a store) store) (λ store. store) (row-own a first before)
        kept (makes-idle f w.taken)

  -- an assignment
  set-makes : (mode : Mode) (s : Statement) (after : Store → Store) → Performs f mode s (set_code f mode s)
      → ((store : Store) → by_mode mode (assigned f.decls s store) store ≡ after store)
      → Makes f (set_code f mode s) after
  set-makes mode s after performs same = record {
    runs = λ o store st b. (
      seen_of_set f mode st.banks st.slots store s,
      subst (λ (l : Store). RunsThrough o st (set_code f mode s) (seen_of_set f mode st.banks st.slots store s)
          (Assigns f l)) (same store)
          (performs.runs o store st b),
    );
  }

module _ (f : Setting) (only : AreOfPublic f.decls f.ranges) where
  -- secret code assigns nothing of which a range is known
  statement-keeps : (s : Statement) → TypedStatement (context_of f.decls) label.Secret s → (mode : Mode)
      → KeepsWithin f (λ store. by_mode mode (effect_of f.decls s store) store)
  statement-keeps s typed mode store are = by mode
    where
      after : AreWithin f.ranges (effect_of f.decls s store)
      after =
          secret-within f.decls f.ranges only s (left store 0) (left (effect_of f.decls s store) 0) typed are
          (effect-means f.decls s typed store 0)

      by : (mode : Mode) → AreWithin f.ranges (by_mode mode (effect_of f.decls s store) store)
      by Public = after
      by Real = after
      by Mirrored = are

  block-keeps : (b : Block) → TypedBlock (context_of f.decls) label.Secret b → (mode : Mode)
      → KeepsWithin f (λ store. by_mode mode (effect_of_block f.decls b store) store)
  block-keeps b typed mode store are = by mode
    where
      after : AreWithin f.ranges (effect_of_block f.decls b store)
      after =
          secret-within_block f.decls f.ranges only b (left store 0) (left (effect_of_block f.decls b store) 0)
          typed are
          (effect_of_block-means f.decls b typed store 0)

      by : (mode : Mode) → AreWithin f.ranges (by_mode mode (effect_of_block f.decls b store) store)
      by Public = after
      by Real = after
      by Mirrored = are

  mutual
    -- the code of a statement leaves the store of its effect, or without effect the store as it was
    pub statement-makes : (s : Statement) (mode : Mode) → TypedStatement (context_of f.decls) label.Secret s
        → LowStatement s
        → Makes f (padded_code f mode s) (λ store. by_mode mode (effect_of f.decls s store) store)
    statement-makes (SetVariable x e) mode typed low =
        set-makes f mode (SetVariable x e) (λ store. by_mode mode (effect_of f.decls (SetVariable x e) store) store)
        (assignment-performs f mode label.Secret (SetVariable x e) tt typed low) (λ store. refl)
    statement-makes (SetElement x i e) mode typed low =
        set-makes f mode (SetElement x i e) (λ store. by_mode mode (effect_of f.decls (SetElement x i e) store) store)
        (assignment-performs f mode label.Secret (SetElement x i e) tt typed low) (λ store. refl)
    statement-makes (Choice t a b) mode typed low =
        let k = pair_count f a b in
        let slack = slack_of f a b in
        let taken = f.profile.taken in
        let second = padded_codes f (arm_mode mode) b in
        let first_mirrored = padded_codes f Mirrored a in
        let first = padded_codes f (arm_mode mode) a in
        let second_mirrored = padded_codes f Mirrored b in
        makes-same f (padded_code f mode (Choice t a b))
        (λ store.
        if guard_holds f.decls store t then by_mode mode (effect_of_block f.decls a store) store
        else by_mode mode (effect_of_block f.decls b store) store)
        (λ store. by_mode mode (effect_of f.decls (Choice t a b) store) store)
        (guarded-makes f mode t (first_of f mode a b) (second_of f mode a b)
        (λ store. by_mode mode (effect_of_block f.decls b store) store)
        (λ store. by_mode mode (effect_of_block f.decls a store) store)
        typed.0 (low.0, (tt, tt))
        (first_arm-makes f mode a b k slack taken second first_mirrored (block-keeps b typed.1.1 mode)
        (each-makes b (arm_mode mode) typed.1.1 low.1.1) (each-makes a Mirrored typed.1.0 low.1.0))
        (second_arm-makes f mode a b k slack taken first second_mirrored (block-keeps a typed.1.0 mode)
        (each-makes a (arm_mode mode) typed.1.0 low.1.0) (each-makes b Mirrored typed.1.1 low.1.1)))
        (λ store. by-either mode (guard_holds f.decls store t) (effect_of_block f.decls a store)
        (effect_of_block f.decls b store) store)
    statement-makes (Loop t a) mode typed low =
        makes-same f [] (λ store. store) (λ store. by_mode mode store store) (makes-none f) (by-same mode)

    pub each-makes : (b : Block) (mode : Mode) → TypedBlock (context_of f.decls) label.Secret b → LowBlock b
        → EachMakes f (padded_codes f mode b) (effects_of f.decls mode b)
    each-makes Nothing mode typed low = NoneMakes
    each-makes (Then s rest) mode typed low =
        OneMakes (padded_code f mode s) (λ store. by_mode mode (effect_of f.decls s store) store)
        (padded_codes f mode rest)
        (effects_of f.decls mode rest) (statement-makes s mode typed.0 low.0) (statement-keeps s typed.0 mode)
        (each-makes rest mode typed.1 low.1)

  -- a choice by a secret in public code, at the place of its code
  pub choice-changes : (o : Parts) → IsInRange o → HasHomes o f → (t : Test) (a b : Block) (place : ℕ)
      → TypedStatement (context_of f.decls) label.Public (Choice t a b)
      → label_of_test (context_of f.decls) t ≡ label.Secret → LowStatement (Choice t a b)
      → StandsAt o place (padded_code f Public (Choice t a b)) → (s : State) (store : Store) → IsShaped o s
      → s.place ≡ place
      → StandsFor f s store → FitsHomes f store → AreWithin f.ranges store
      → (shown : List Observed) × Comes o s shown (place + length (padded_code f Public (Choice t a b)))
      (greatest_costs o (padded_code f Public (Choice t a b))) (Assigns f (effect_of f.decls (Choice t a b) store))
  choice-changes o in_range homes t a b place typed secret low at s store shaped there stands fits within =
      let code = padded_code f Public (Choice t a b) in
      let begins : BeginsCode o f store s code = record {
        in_range = in_range;
        homes = homes;
        fits = fits;
        within = within;
        shaped = shaped;
        stands = stands;
        code_stands = subst (λ (p : ℕ). StandsAt o p code) (sym there) at;
      } in
      let inner = secret-typed (context_of f.decls) label.Public t a b secret typed in
      let run = (statement-makes (Choice t a b) Public inner low).runs o store s begins in (
        run.0,
        comes-weaker run.0 (place + length code) (greatest_costs o code)
            (Assigns f (effect_of f.decls (Choice t a b) store)) run.1 refl
            (ap (λ (p : ℕ). p + length code) there) (omega arith) (λ u shape made. made),
      )
