-- One instruction of an accepted object that opens no region leads two runs that are alike to states that are alike,
-- and shows the same events.
use Rattle.std.proofs.Common.{◌≡◌, ℕ, ◌+◌, ◌<◌, Bool, true, false, not, ◌&&◌, ◌||◌, ℤ, pos, List, [], get_or, set, Option, Some, None, refl, sym, ap, ◌∙◌, subst, ⊎_elim}
use Rattle.std.specs.Prelude.{if◌then◌else◌}
use Rattle.std.proofs.lemmas.Bool.{and_cases, or_parts, or_left, not-false, true≢false, false≢true, eqb-true}
use Rattle.gr_word.specs.declared.operations.Op.{Op}
use Rattle.gr_word.specs.declared.operations.Cmp.{Cmp}
use Rattle.gr_word.specs.Prelude.{applied, compared}
use Rattle.lt_isa.specs.declared.instructions.Instr.{Instr}
use Rattle.lt_isa.specs.declared.instructions.Instr.TheVariants.{Nop, Halt, Li, Alu, Ldb, Stb, Idb, Ldw, Stw, Jmp, Br}
use Rattle.lt_isa.specs.Prelude.{Parts, is_ram, is_eram, InstrFits, Slot, Unbound, Bound, State, Observed, RamRead, RamWrite, EncRead, EncWrite, Oram, register, slot, bank_blocks, block_at, word_in, read_event, write_event, StepResult, Goes, Stops, Faults, target_of, passed, with_bound, block_named, word_named, executed}
use Rattle.trace_patterns.specs.declared.reasons.Reason.TheVariants.{SecretAddress, SecretToRam}
use Rattle.trace_patterns.specs.Prelude.{Known, is_secret, bank_known, set_secret, set_bank, Ruling, Falls, Leaves, Opens, shows_block, refused_if, jumped, ruling_of, VisitedAt, Accepts}
use Rattle.lt_checker.proofs.Related.{Related, BoundAlike, SlotsAlike, passed_alike, register_alike, slot_alike, words_alike, block_alike}
use Rattle.lt_checker.proofs.Made.{Made, Reached, LandsAt, made_unless, made_bank, made_jump, made_falls}
use Rattle.lt_checker.proofs.Stands.{Stand, stand_behind, stand_at}

-- an instruction that opens no region: a branch on public registers, or no branch
abbrev pub OpensNone : Known → Instr → Type 0
OpensNone k (Br cmp ra rb offset) = (is_secret k ra || is_secret k rb) ≡ false
OpensNone k i = Unit {0}

-- two steps are alike: both continue, show the same events and lead to one visited place again, or both stop
abbrev pub StepsAlike : Parts → StepResult → StepResult → Type 0
StepsAlike o (Goes e s) (Goes f t) = (e ≡ f) × Stand o s t
StepsAlike o (Goes e s) (Stops t) = ⊥
StepsAlike o (Goes e s) Faults = ⊥
StepsAlike o (Stops s) (Stops t) = Unit {0}
StepsAlike o (Stops s) (Goes f t) = ⊥
StepsAlike o (Stops s) Faults = ⊥
StepsAlike o Faults t = ⊥

-- an access shows the same events in both runs
event_alike : (e : ℕ → List ℤ → Observed) (f : ℕ → Observed) (g : Observed) (ram eram : Bool) (a1 a2 : ℕ)
    (words1 words2 : List ℤ) → ((ram || eram) ≡ true → a1 ≡ a2) → (ram ≡ true → words1 ≡ words2)
    → ◌≡◌ {A = Observed} (if ram then e a1 words1 else (if eram then f a1 else g))
    (if ram then e a2 words2 else (if eram then f a2 else g))
event_alike e f g true eram a1 a2 words1 words2 block words =
    ap (λ (a : ℕ). e a words1) (block refl) ∙ ap (e a2) (words refl)
event_alike e f g false true a1 a2 words1 words2 block words = ap f (block refl)
event_alike e f g false false a1 a2 words1 words2 block words = refl

read_alike : (b a1 a2 : ℕ) (words1 words2 : List ℤ) → BoundAlike b a1 a2 words1 words2
    → read_event b a1 words1 ≡ read_event b a2 words2
read_alike b a1 a2 words1 words2 h =
    event_alike RamRead EncRead (Oram b) (is_ram b) (is_eram b) a1 a2 words1 words2 h.block h.words

write_alike : (b a1 a2 : ℕ) (words1 words2 : List ℤ) → BoundAlike b a1 a2 words1 words2
    → write_event b a1 words1 ≡ write_event b a2 words2
write_alike b a1 a2 words1 words2 h =
    event_alike RamWrite EncWrite (Oram b) (is_ram b) (is_eram b) a1 a2 words1 words2 h.block h.words

-- the same action on two slots that are alike
bound_alike : (o : Parts) (b : ℕ) (x y : Slot) (f g : ℕ → ℕ → List ℤ → StepResult) → SlotsAlike b x y
    → ((a1 a2 : ℕ) (words1 words2 : List ℤ) → x ≡ Bound b a1 words1 → y ≡ Bound b a2 words2
    → BoundAlike b a1 a2 words1 words2 → StepsAlike o (f b a1 words1) (g b a2 words2))
    → StepsAlike o (with_bound x f) (with_bound y g)
bound_alike o b Unbound y f g alike h = absurd alike
bound_alike o b (Bound b1 a1 words1) Unbound f g alike h = absurd alike
bound_alike o b (Bound b1 a1 words1) (Bound b2 a2 words2) f g alike h =
    subst (λ (c : ℕ). StepsAlike o (f c a1 words1) (g b2 a2 words2)) (sym alike.0)
    (subst (λ (c : ℕ). StepsAlike o (f b a1 words1) (g c a2 words2)) (sym alike.1)
    (h a1 a2 words1 words2 (ap (λ (c : ℕ). Bound c a1 words1) alike.0)
    (ap (λ (c : ℕ). Bound c a2 words2) alike.1) alike.2))

-- a choice that both runs make alike
either_alike : (o : Parts) (c d : Bool) (x y u v : StepResult) → c ≡ d → StepsAlike o x y → StepsAlike o u v
    → StepsAlike o (if c then x else u) (if d then y else v)
either_alike o true true x y u v same first second = first
either_alike o true false x y u v same first second = absurd (true≢false same)
either_alike o false true x y u v same first second = absurd (false≢true same)
either_alike o false false x y u v same first second = second

module _ (o : Parts) (accepts : Accepts o) (k : Known) (s t : State) (visited : VisitedAt o s.place k)
    (rel : Related k s t) where
  next : s.place + 1 ≡ t.place + 1
  next = ap (λ (p : ℕ). p + 1) rel.place

  -- after an instruction that falls through
  behind : (after : Known) (u v : State) (e f : Option Observed) → Made o accepts s.place k visited (Falls after)
      → u.place ≡ s.place + 1 → e ≡ f → Related after u v → StepsAlike o (Goes e u) (Goes f v)
  behind after u v e f made at same h =
      let reached = made_falls o accepts s.place k visited after made in
      (same, stand_behind o after u v accepts (subst (λ (p : ℕ). Reached o p after) (sym at) reached) h)

  went : (i : Instr) (bank : ℕ)
      → Related k (passed o i false bank (s.place + 1) s) (passed o i false bank (t.place + 1) t)
  went i bank = passed_alike o i false bank (s.place + 1) (t.place + 1) k s t next rel

  nop_alike : Made o accepts s.place k visited (ruling_of o s.place k Nop)
      → StepsAlike o (executed o s Nop) (executed o t Nop)
  unfolding ruling_of
  nop_alike made = behind k _ _ None None made refl refl (went Nop 0)

  li_alike : (rd : ℕ) (value : ℤ) → Made o accepts s.place k visited (ruling_of o s.place k (Li rd value))
      → StepsAlike o (executed o s (Li rd value)) (executed o t (Li rd value))
  unfolding ruling_of
  li_alike rd value made =
      behind (set_secret k rd false) _ _ None None made refl refl
      (register_alike k _ _ rd false value value (went (Li rd value) 0) (λ e. refl))

  alu_alike : (op : Op) (rd ra rb : ℕ) → Made o accepts s.place k visited (ruling_of o s.place k (Alu op rd ra rb))
      → StepsAlike o (executed o s (Alu op rd ra rb)) (executed o t (Alu op rd ra rb))
  unfolding ruling_of
  alu_alike op rd ra rb made =
      let result : (is_secret k ra || is_secret k rb) ≡ false → applied op (register s ra) (register s rb) ≡ applied op
      (register t ra) (register t rb) = λ e.
      let public = or_parts (is_secret k ra) (is_secret k rb) e in
      ap (λ (x : ℤ). applied op x (register s rb)) (rel.registers ra public.0)
      ∙ ap (applied op (register t ra)) (rel.registers rb public.1) in
      behind (set_secret k rd (is_secret k ra || is_secret k rb)) _ _ None None made refl refl
      (register_alike k _ _ rd (is_secret k ra || is_secret k rb) _ _ (went (Alu op rd ra rb) 0) result)

  -- a block of one bank, loaded in both runs
  load_alike : (b a1 a2 : ℕ) → (shows_block b ≡ true → a1 ≡ a2) → BoundAlike b a1 a2 (block_at s b a1) (block_at t b a2)
  load_alike b a1 a2 block = record {
    block = block;
    words = λ ram.
        let banks : bank_blocks s b ≡ bank_blocks t b = subst (λ (q : ℕ). bank_blocks s q ≡ bank_blocks t q)
        (sym (eqb-true b 0 ram)) rel.ram in
        ap (λ (blocks : List (List ℤ)). get_or blocks a1 []) banks
        ∙ ap (λ (a : ℕ). block_at t b a) (block (or_left (is_ram b) (is_eram b) ram));
  }

  ldb_alike : (j b r : ℕ) → j < 8 → Made o accepts s.place k visited (ruling_of o s.place k (Ldb j b r))
      → StepsAlike o (executed o s (Ldb j b r)) (executed o t (Ldb j b r))
  unfolding ruling_of
  ldb_alike j b r fits made =
      let passes = made_unless o accepts s.place k visited (shows_block b && is_secret k r) SecretAddress
      (Falls (set_bank k j b)) made in
      let a1 = block_named o b (register s r) in
      let a2 = block_named o b (register t r) in
      let block : shows_block b ≡ true → a1 ≡ a2 = λ shows.
      ⊎_elim
      (λ (hides : shows_block b ≡ false). absurd (true≢false (sym shows ∙ hides)))
      (λ (public : is_secret k r ≡ false). ap (block_named o b) (rel.registers r public))
      (and_cases (shows_block b) (is_secret k r) passes.failed) in
      let alike = load_alike b a1 a2 block in
      behind (set_bank k j b) _ _ (Some (read_event b a1 (block_at s b a1)))
      (Some (read_event b a2 (block_at t b a2))) passes.made refl (ap Some (read_alike b a1 a2 _ _ alike))
      (slot_alike k _ _ j b (Bound b a1 (block_at s b a1)) (Bound b a2 (block_at t b a2)) fits (went (Ldb j b r) b)
      (refl, refl, alike))

  stb_alike : (j : ℕ) → Made o accepts s.place k visited (ruling_of o s.place k (Stb j))
      → StepsAlike o (executed o s (Stb j)) (executed o t (Stb j))
  unfolding ruling_of
  stb_alike j made =
      let at = made_bank o accepts s.place k visited (bank_known k j) (λ bank. Falls k) made in
      bound_alike o at.bank (slot s j) (slot t j) _ _ (rel.slots j at.bank at.is) (λ a1 a2 words1 words2 e f alike.
      behind k _ _ (Some (write_event at.bank a1 words1)) (Some (write_event at.bank a2 words2)) at.made refl
      (ap Some (write_alike at.bank a1 a2 words1 words2 alike))
      (block_alike k _ _ at.bank a1 a2 words1 words2 (went (Stb j) at.bank) alike))

  idb_alike : (rd j : ℕ) → Made o accepts s.place k visited (ruling_of o s.place k (Idb rd j))
      → StepsAlike o (executed o s (Idb rd j)) (executed o t (Idb rd j))
  unfolding ruling_of
  idb_alike rd j made =
      let at = made_bank o accepts s.place k visited (bank_known k j)
      (λ bank. Falls (set_secret k rd (not (shows_block bank)))) made in
      let secret = not (shows_block at.bank) in
      bound_alike o at.bank (slot s j) (slot t j) _ _ (rel.slots j at.bank at.is) (λ a1 a2 words1 words2 e f alike.
      behind (set_secret k rd secret) _ _ None None at.made refl refl
      (register_alike k _ _ rd secret (pos a1) (pos a2) (went (Idb rd j) 0)
      (λ public. ap pos (alike.block (not-false (shows_block at.bank) public)))))

  ldw_alike : (rd j ro : ℕ) → Made o accepts s.place k visited (ruling_of o s.place k (Ldw rd j ro))
      → StepsAlike o (executed o s (Ldw rd j ro)) (executed o t (Ldw rd j ro))
  unfolding ruling_of
  ldw_alike rd j ro made =
      let at = made_bank o accepts s.place k visited (bank_known k j)
      (λ bank. Falls (set_secret k rd (not (is_ram bank) || is_secret k ro))) made in
      let secret = not (is_ram at.bank) || is_secret k ro in
      bound_alike o at.bank (slot s j) (slot t j) _ _ (rel.slots j at.bank at.is) (λ a1 a2 words1 words2 e f alike.
      let word : secret ≡ false → word_in words1 (word_named o (register s ro)) ≡ word_in words2
      (word_named o (register t ro)) = λ public.
      let parts = or_parts (not (is_ram at.bank)) (is_secret k ro) public in
      ap (λ (words : List ℤ). word_in words (word_named o (register s ro)))
      (alike.words (not-false (is_ram at.bank) parts.0))
      ∙ ap (λ (x : ℤ). word_in words2 (word_named o x)) (rel.registers ro parts.1) in
      behind (set_secret k rd secret) _ _ None None at.made refl refl
      (register_alike k _ _ rd secret _ _ (went (Ldw rd j ro) 0) word))

  stw_alike : (rs j ro : ℕ) → j < 8 → Made o accepts s.place k visited (ruling_of o s.place k (Stw rs j ro))
      → StepsAlike o (executed o s (Stw rs j ro)) (executed o t (Stw rs j ro))
  unfolding ruling_of
  stw_alike rs j ro fits made =
      let at = made_bank o accepts s.place k visited (bank_known k j)
      (λ bank. refused_if (is_ram bank && (is_secret k rs || is_secret k ro)) SecretToRam (Falls k)) made in
      let passes = made_unless o accepts s.place k visited
      (is_ram at.bank && (is_secret k rs || is_secret k ro)) SecretToRam (Falls k) at.made in
      bound_alike o at.bank (slot s j) (slot t j) _ _ (rel.slots j at.bank at.is) (λ a1 a2 words1 words2 e f alike.
      let first = set words1 (word_named o (register s ro)) (register s rs) in
      let second = set words2 (word_named o (register t ro)) (register t rs) in
      let same : is_ram at.bank ≡ true → first ≡ second = λ ram.
      ⊎_elim
      (λ (other : is_ram at.bank ≡ false). absurd (true≢false (sym ram ∙ other)))
      (λ (public : (is_secret k rs || is_secret k ro) ≡ false).
      let parts = or_parts (is_secret k rs) (is_secret k ro) public in
      ap (λ (words : List ℤ). set words (word_named o (register s ro)) (register s rs)) (alike.words ram)
      ∙ ap (λ (x : ℤ). set words2 (word_named o x) (register s rs)) (rel.registers ro parts.1)
      ∙ ap (set words2 (word_named o (register t ro))) (rel.registers rs parts.0))
      (and_cases (is_ram at.bank) (is_secret k rs || is_secret k ro) passes.failed) in
      let bound : BoundAlike at.bank a1 a2 first second = record { block = alike.block; words = same } in
      behind k _ _ None None passes.made refl refl
      (words_alike k _ _ j at.bank (Bound at.bank a1 first) (Bound at.bank a2 second) fits at.is (went (Stw rs j ro) 0)
      (refl, refl, bound)))

  -- a jump that both runs take
  taken_alike : (i : Instr) (offset : ℤ) → LandsAt o (target_of o s.place offset) k
      → Stand o (passed o i true 0 (target_of o s.place offset) s) (passed o i true 0 (target_of o t.place offset) t)
  taken_alike i offset lands =
      stand_at o k _ _ lands (passed_alike o i true 0 (target_of o s.place offset) (target_of o t.place offset) k s t
      (ap (λ (p : ℕ). target_of o p offset) rel.place) rel)

  jmp_alike : (offset : ℤ) → Made o accepts s.place k visited (ruling_of o s.place k (Jmp offset))
      → StepsAlike o (executed o s (Jmp offset)) (executed o t (Jmp offset))
  unfolding ruling_of
  jmp_alike offset made =
      let jump = made_jump o accepts s.place k visited (target_of o s.place offset) k Leaves made in
      (refl, taken_alike (Jmp offset) offset jump.lands)

  br_alike : (cmp : Cmp) (ra rb : ℕ) (offset : ℤ) → (is_secret k ra || is_secret k rb) ≡ false
      → Made o accepts s.place k visited (ruling_of o s.place k (Br cmp ra rb offset))
      → StepsAlike o (executed o s (Br cmp ra rb offset)) (executed o t (Br cmp ra rb offset))
  unfolding ruling_of
  br_alike cmp ra rb offset quiet made =
      let target = target_of o s.place offset in
      let jumps : ◌≡◌ {A = Ruling}
      (if is_secret k ra || is_secret k rb then Opens offset else jumped o target k (Falls k))
      (jumped o target k (Falls k)) =
      ap (λ (c : Bool). let r : Ruling = if c then Opens offset else jumped o target k (Falls k) in r) quiet in
      let public = or_parts (is_secret k ra) (is_secret k rb) quiet in
      let jump = made_jump o accepts s.place k visited target k (Falls k) (made ∙ jumps) in
      let same : compared cmp (register s ra) (register s rb) ≡ compared cmp (register t ra) (register t rb) =
      ap (λ (x : ℤ). compared cmp x (register s rb)) (rel.registers ra public.0)
      ∙ ap (compared cmp (register t ra)) (rel.registers rb public.1) in
      either_alike o _ _ _ _ _ _ same (refl, taken_alike (Br cmp ra rb offset) offset jump.lands)
      (behind k _ _ None None jump.made refl refl (went (Br cmp ra rb offset) 0))

  -- any instruction other than a branch on a secret
  pub instr_alike : (banks : ℕ) (i : Instr) → InstrFits banks i → OpensNone k i
      → Made o accepts s.place k visited (ruling_of o s.place k i) → StepsAlike o (executed o s i) (executed o t i)
  instr_alike banks Nop fits none made = nop_alike made
  instr_alike banks Halt fits none made = tt
  instr_alike banks (Li rd value) fits none made = li_alike rd value made
  instr_alike banks (Alu op rd ra rb) fits none made = alu_alike op rd ra rb made
  instr_alike banks (Ldb j b r) fits none made = ldb_alike j b r fits.0 made
  instr_alike banks (Stb j) fits none made = stb_alike j made
  instr_alike banks (Idb rd j) fits none made = idb_alike rd j made
  instr_alike banks (Ldw rd j ro) fits none made = ldw_alike rd j ro made
  instr_alike banks (Stw rs j ro) fits none made = stw_alike rs j ro fits.1 made
  instr_alike banks (Jmp offset) fits none made = jmp_alike offset made
  instr_alike banks (Br cmp ra rb offset) fits none made = br_alike cmp ra rb offset none made
