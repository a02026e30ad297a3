-- A branch on a secret in public code is passed: its guard in public code, and then the region of its two arms.
use Rattle.std.proofs.Common.{◌≡◌, ℕ, ◌+◌, ◌-◌, ◌<◌, ◌≤◌, Bool, true, false, ◌||◌, ℤ, pos, List, ◌∷◌, ◌++◌, length, Option, Some, None, refl, sym, ap, ◌∙◌, subst, arith, length-append}
use Rattle.std.specs.Prelude.{if◌then◌else◌, is_none}
use Rattle.std.specs.Option.{option_map}
use Rattle.std.proofs.lemmas.Bool.{eqb-true}
use Rattle.std.proofs.lemmas.List.{length-map}
use Rattle.gr_word.specs.declared.variables.Label.{Label}
use Rattle.lt_isa.specs.declared.instructions.Instr.{Instr}
use Rattle.gr_word.specs.declared.operations.Cmp.{Cmp}
use Rattle.lt_isa.specs.declared.instructions.Instr.TheVariants.{Br, Jmp}
use Rattle.lt_isa.specs.Prelude.{target_of, Parts, is_ram, is_eram}
use Rattle.symbolic_values.specs.Prelude.{Reg, SlotAt}
use Rattle.src_tree.specs.Prelude.{context_of, higher, inside, label_of, label_of_test, LowStatement, Test, Choice, Block, TypedStatement, TypedBlock, DeclaredOnce}
use Rattle.trace_patterns.specs.Prelude.{Known, is_secret, note_known, Opens, Falls, jumped, claimed_at, ruling_of, most_regions, RamSlot, EramSlot, OramSlot, Entry, SymState, entry_slot, at_entry, slot_bank, known_after, common, CrossesFrom}
use Rattle.trace_patterns.proofs.SymStateLaws.{tree-at_entry, slot-at_entry, sized-at_entry, secret-after, bank-after}
use Rattle.trace_patterns.proofs.Walks.{crosses-wider}
use Rattle.stretches.specs.Prelude.{StandsInArm, HoldsAt, AsItComes, Passes, Done, Across}
use Rattle.stretches.proofs.Standing.{standing-first, standing-rest, standing-head}
use Rattle.stretches.proofs.Passed.{passes-then, ruled-at, LieBetween, no_note-behind, notes-within}
use Rattle.stretches.proofs.UnnotedPlaces.{quiet-unclaimed}
use Rattle.block_cache_gen.specs.declared.frames.Mode.{Mode}
use Rattle.block_cache_gen.specs.Prelude.{Setting, HasHomes, home_of, expr_code, guard_code, guard_notes, Carries, CarriesInArm, held_tree, StandsNoted, StatementHasPublicIndexes}
use Rattle.held_registers.specs.Prelude.{IsSoundHeld}
use Rattle.block_cache_gen.proofs.HeldLabels.{label-low}
use Rattle.block_cache_gen.proofs.NotesOfCode.{expression-longer}
use Rattle.block_cache_gen.proofs.PublicGuards.{guard-lie, guard-passes}
use Rattle.block_cache_gen.proofs.SecretRegions.{joined-carries, joined-slots, region-crossed}
use Rattle.branch_padding.specs.Prelude.{nesting_of, slack_of, region_code, padded_code, first_of, second_of, shows_of_region, slots_of_arms, pattern_of_region, OpensRegion, PassedCode, IsPassedAnywhere}
use Rattle.branch_padding.proofs.SecretStatements.{ArmsGo, arms-go, each-goes}
use Rattle.gr_word.specs.declared.variables.Label.TheVariants as label
use Rattle.src_tree.specs.Labels as labels
use Rattle.block_cache_gen.specs.declared.frames.Mode.TheVariants as modes

-- at the entry, and back in public code, a setting is carried
entry-bank : (bank slot : ℕ) → slot_bank (entry_slot (Some bank) slot) ≡ Some bank
entry-bank bank slot = by (is_ram bank) refl (is_eram bank) refl
  where
    by : (ram : Bool) → is_ram bank ≡ ram → (eram : Bool) → is_eram bank ≡ eram
        → slot_bank (if ram then RamSlot (SlotAt slot) (Entry slot)
        else (if eram then EramSlot (SlotAt slot) else OramSlot bank))
        ≡ Some bank
    by true is eram other = ap Some (sym (eqb-true bank 0 is))
    by false is true other = ap Some (sym (eqb-true bank 1 other))
    by false is false other = refl

held-entry : (r : ℕ) (l : Label) → (if labels.secret_label l then None else Some (Reg r)) ≡ held_tree r l
held-entry r label.Public = refl
held-entry r label.Secret = refl

held-after : (r : ℕ) (l : Label) → is_none (held_tree r l) ≡ labels.secret_label l
held-after r label.Public = refl
held-after r label.Secret = refl

pub carried-in : (f : Setting) → IsSoundHeld f.decls f.held → (k : Known) → Carries f k → CarriesInArm f (at_entry k)
carried-in f sound k carries =
    let sized = sized-at_entry k in
    record {
      registers = sized.registers;
      slots = sized.slots;
      plain = λ slot p pinned few apart zero.
          slot-at_entry k slot few
          ∙ ap (λ (b : Option ℕ). entry_slot b slot) (carries.pinned slot p pinned few apart ∙ ap Some zero);
      pinned = λ slot p pinned few apart.
          ap slot_bank (slot-at_entry k slot few)
          ∙ ap (λ (b : Option ℕ). slot_bank (entry_slot b slot)) (carries.pinned slot p pinned few apart)
          ∙ entry-bank p.bank slot;
      arrays = λ x label declared turn served.
          let slot = (home_of f x).slot in
          ap slot_bank (slot-at_entry k slot (omega arith))
          ∙ ap (λ (b : Option ℕ). slot_bank (entry_slot b slot)) (carries.arrays x label declared turn served)
          ∙ entry-bank (home_of f x).bank slot;
      held = λ r l is.
          tree-at_entry k r (label-low f sound r l is)
          ∙ ap (λ (b : Bool). if b then None else Some (Reg r)) (carries.held r l is)
          ∙ held-entry r l;
    }

pub carried-out : (f : Setting) (s : SymState) → CarriesInArm f s → Carries f (known_after s)
carried-out f s carries = record {
  registers = length-map s.registers is_none ∙ carries.registers;
  slots = length-map s.slots slot_bank ∙ carries.slots;
  pinned = λ slot p pinned few apart. bank-after s slot ∙ carries.pinned slot p pinned few apart;
  arrays = λ x label declared turn served.
      bank-after s (home_of f x).slot ∙ carries.arrays x label declared turn served;
  held = λ r l is. secret-after s r ∙ ap is_none (carries.held r l is) ∙ held-after r l;
}

-- one of two registers may hold a secret, where one of two labels is secret
either-secret : (x y : Bool) (l m : Label) → x ≡ labels.secret_label l → y ≡ labels.secret_label m
    → higher l m ≡ label.Secret → (x || y) ≡ true
either-secret x y l m left right e = (λ i. left i || right i) ∙ by l m e
  where
    by : (l m : Label) → higher l m ≡ label.Secret → (labels.secret_label l || labels.secret_label m) ≡ true
    by label.Public label.Secret e = refl
    by label.Secret m e = refl
    by label.Public label.Public e = absurd (let g : ◌≡◌ {A = Label} label.Public label.Secret = e in cc)

-- a branch on a register that may hold a secret opens a region
opens-region : (o : Parts) (p : ℕ) (k : Known) (cmp : Cmp) (ra rb : ℕ) (offset : ℤ)
    → (is_secret k ra || is_secret k rb) ≡ true → ruling_of o p k (Br cmp ra rb offset) ≡ Opens offset
unfolding ruling_of
opens-region o p k cmp ra rb offset held =
    ap (λ (b : Bool). if b then Opens offset else jumped o (target_of o p offset) k (Falls k)) held

-- how far the branch after the guard jumps
abbrev pub branch_offset : Setting → Mode → Block → Block → ℤ
branch_offset f mode a b = pos (length (first_of f mode a b) + 2)

-- After the guard, if no note is there, the region is opened, and the setting is carried at its join.
pub record PassedRegion (o : Parts) (f : Setting) (a b : Block) (p : ℕ) (guard code : List Instr) (offset : ℤ)
    (comes : Known) : Type 0 where
  pub region : OpensRegion o f a b p guard code offset comes
  pub unclaimed : claimed_at o (p + length guard) ≡ None
  pub carries : Carries f (known_after region.state)

-- so the code is passed
pub region-passes : (o : Parts) (f : Setting) (a b : Block) (p : ℕ) (guard code : List Instr) (offset : ℤ)
    (comes : Known) → PassedRegion o f a b p guard code offset comes → PassedCode o f p code comes
region-passes o f a b p guard code offset comes passed =
    let r = passed.region in
    let mid = p + length guard in
    let whole = p + length code in
    let last = known_after r.state in
    record {
      last = last;
      passes = passes-then o p comes mid r.known r.passes whole last
          (Across mid r.known r.known offset (pattern_of_region f a b) whole r.state whole last
          (AsItComes r.known passed.unclaimed) r.opens r.crosses (Done whole last));
      carries = passed.carries;
    }

module _ (o : Parts) (f : Setting) (homes : HasHomes o f) (some : 1 ≤ f.profile.taken) (t : Test) (a b : Block)
    (typed : TypedStatement (context_of f.decls) label.Public (Choice t a b))
    (secret : label_of_test (context_of f.decls) t ≡ label.Secret)
    (public : StatementHasPublicIndexes f (Choice t a b)) (low : LowStatement (Choice t a b))
    (around : nesting_of (Choice t a b) ≤ most_regions) where
  first_typed : TypedBlock (context_of f.decls) label.Secret a
  first_typed = subst (λ (l : Label). TypedBlock (context_of f.decls) l a) secret typed.1.0

  second_typed : TypedBlock (context_of f.decls) label.Secret b
  second_typed = subst (λ (l : Label). TypedBlock (context_of f.decls) l b) secret typed.1.1

  abbrev first : List Instr
  first = first_of f modes.Public a b

  abbrev second : List Instr
  second = second_of f modes.Public a b

  abbrev region : List Instr
  region = region_code t.cmp first second

  abbrev offset : ℤ
  offset = branch_offset f modes.Public a b

  -- both arms go from the entry
  arms : (s : SymState) → CarriesInArm f s → ArmsGo o f homes modes.Public 0 a b s (slack_of f a b)
  arms s carries =
      arms-go o f homes some modes.Public 0 a b first_typed second_typed
      (each-goes o f homes some a 1 first_typed public.1.0 low.1.0 (omega arith))
      (each-goes o f homes some b 1 second_typed public.1.1 low.1.1 (omega arith)) s carries public.1.0 public.1.1
      low.1.0 low.1.1

  abbrev guard : List Instr
  guard = guard_code f modes.Public 0 t

  -- after the guard the region is opened and crossed
  region-crosses : (p : ℕ) (comes holds : Known) → Passes o p comes (p + length guard) holds → Carries f holds
      → StandsInArm o (p + length guard) region → claimed_at o (p + length guard) ≡ None
      → (is_secret holds 0 || is_secret holds 1) ≡ true
      → PassedRegion o f a b p guard (guard ++ region) offset comes
  region-crosses p comes holds passes carries stands unclaimed held =
      let mid = p + length guard in
      let end = mid + length region in
      let rest = first ++ (Jmp (pos (length second + 1)) ∷ second) in
      let s = at_entry holds in
      let shows = shows_of_region f a b in
      let loads = slots_of_arms f a b in
      let go = arms s (carried-in f homes.held holds carries) in
      let none : 0 < most_regions = omega arith in
      let state = common go.untaken.state go.taken.state in
      let pattern = pattern_of_region f a b in
      let crossed = region-crossed o f 0 s t.cmp 0 1 first second go.xs go.ys shows loads none go.untaken go.taken
      go.one_way go.other_way mid stands in
      let inside : end ≤ length o.code - 1 = let behind = stands.behind in omega arith in
      let same : end ≡ p + length (guard ++ region) = omega (arith, length-append guard region) in
      record {
        region = record {
          known = holds;
          passes = passes;
          opens = ruled-at o mid holds (Br t.cmp 0 1 offset) (standing-head (Br t.cmp 0 1 offset) rest stands.at)
              ∙ opens-region o mid holds t.cmp 0 1 offset held;
          state = state;
          crosses = subst (λ (q : ℕ). CrossesFrom o mid offset holds pattern q state) same
              (crosses-wider o 0 end mid offset s pattern end state crossed (length o.code - 1) inside);
          slots = joined-slots o f 0 s t.cmp 0 1 first second go.xs go.ys shows loads none go.untaken go.taken
              go.one_way go.other_way;
        };
        unclaimed = unclaimed;
        carries = carried-out f state
            (joined-carries o f 0 s t.cmp 0 1 first second go.xs go.ys shows loads none go.untaken go.taken
            go.one_way go.other_way);
      }

  -- the guard and the region
  pub choice-opens : DeclaredOnce f.decls → (p : ℕ) (comes holds : Known)
      → StandsNoted o p (padded_code f modes.Public (Choice t a b)) (guard_notes f 0 p t) → HoldsAt o p comes holds
      → Carries f holds
      → PassedRegion o f a b p guard (padded_code f modes.Public (Choice t a b)) offset comes
  choice-opens once p comes holds stands here carries =
      let notes = guard_notes f 0 p t in
      let size : length (guard ++ region) ≡ length guard + length region = length-append guard region in
      let long = expression-longer f t.left 0 in
      let left_size = length-append (expr_code f modes.Public 0 t.left) (expr_code f modes.Public 1 t.right) in
      let inside = stands.behind in
      let mid = p + length guard in
      let whole = p + length (guard ++ region) in
      let ahead : 1 ≤ length region = omega arith in
      let lies : LieBetween p mid notes = guard-lie f 0 p t in
      let none : (r : ℕ) → mid ≤ r → r < whole → claimed_at o r ≡ None =
      λ r le lt. stands.noted r (omega arith) lt
      ∙ ap (option_map note_known) (no_note-behind p mid r notes lies le) in
      let g = guard-passes o f homes once t typed.0 public.0 0 p comes holds (omega arith) (omega arith)
      (record {
        code_stands = standing-first guard region stands.code_stands;
        noted = notes-within o p whole p mid notes (omega arith) (omega arith) stands.noted;
        behind = omega arith;
      }) here carries in
      let arm : StandsInArm o mid region = record {
        at = standing-rest guard region stands.code_stands;
        behind = omega arith;
        quiet = quiet-unclaimed o mid (mid + length region) (λ r after before. none r (omega arith) (omega arith));
      } in
      let held : (is_secret g.last 0 || is_secret g.last 1) ≡ true =
      either-secret (is_secret g.last 0) (is_secret g.last 1) (label_of (context_of f.decls) t.left)
      (label_of (context_of f.decls) t.right) g.left g.right secret in
      region-crosses p comes g.last g.passes g.carries arm (none mid (omega arith) (omega arith)) held

  pub choice-passes : DeclaredOnce f.decls
      → IsPassedAnywhere o f (padded_code f modes.Public (Choice t a b)) (λ p. guard_notes f 0 p t)
  choice-passes once p comes holds stands here carries =
      region-passes o f a b p guard (padded_code f modes.Public (Choice t a b)) offset comes
      (choice-opens once p comes holds stands here carries)
