-- The end of a program's code, where no register holds a scalar any more: each pinned slot's block is stored, and then
-- the banks hold each variable's words.
use Rattle.std.proofs.Common.{◌≡◌, ◌≢◌, ℕ, suc, ◌+◌, ◌*◌, ◌/◌, ◌%◌, ◌<◌, ◌≤◌, Bool, true, false, ℤ, pos, List, [], ◌∷◌, ◌++◌, length, get_or, set, Option, Some, None, refl, sym, ap, ◌∙◌, subst, ⊎_elim, arith, div-add-mod'}
use Rattle.std.specs.Prelude.{slice_index_or}
use Rattle.std.proofs.lemmas.Nat.{le-div, pow_pos}
use Rattle.std.proofs.lemmas.Bool.{cases_eq, cases_lt, true≢false}
use Rattle.std.proofs.lemmas.List.{get_or-set_same, get_or-set_other, get_or_past}
use Rattle.gr_word.specs.declared.variables.Label.{Label}
use Rattle.gr_word.specs.declared.variables.Shape.{Shape}
use Rattle.gr_word.specs.declared.variables.Shape.TheVariants.{Scalar, Array}
use Rattle.lt_isa.specs.declared.instructions.Instr.TheVariants.{Stb}
use Rattle.lt_isa.specs.Prelude.{Parts, IsInRange, Unbound, Bound, State, Observed, slot, bank_blocks, block_at, word_in, set_block, slot_words, write_event, bank_word_numbered, IsShaped}
use Rattle.src_tree.specs.Prelude.{context_of, Store, variable_number, words_of_number}
use Rattle.stretches.specs.Prelude.{StandsAt, greatest_costs, RunsThrough}
use Rattle.stretches.proofs.Standing.{standing-head}
use Rattle.stretches.proofs.Coming.{comes-here, comes-stb, comes-weaker}
use Rattle.stretches.proofs.RunningThrough.{runs-append, runs-weaker}
use Rattle.scratch_alloc.specs.declared.plans.Pin.{Pin}
use Rattle.block_cache_gen.specs.Prelude.{Setting, HasHomes, pin_at, home_of, slot_of_word, register_for, words_a_block, start_of_home, StandsFor}
use Rattle.scratch_alloc.specs.Prelude.{pin_to}
use Rattle.block_cache_gen.proofs.HomeFacts.{block_words-is}
use Rattle.code_gen.specs.Prelude.{pin_store, each_slot}
use Rattle.code_gen.proofs.Started.{BanksHold, word-in_block, resident-pinned}

-- what the stores of pinned slots show, from slot k on
abbrev pub pin_shown : State → ℕ → Option Pin → List Observed
pin_shown s k None = []
pin_shown s k (Some p) = write_event p.bank p.block (slot_words (slot s k)) ∷ []

abbrev pub pins_shown : State → ℕ → List (Option Pin) → List Observed
pins_shown s k [] = []
pins_shown s k (pin ∷ pins) = pin_shown s k pin ++ pins_shown s (k + 1) pins

-- the blocks of the pinned slots below one are stored
pub record StoredTo (f : Setting) (s : State) (k : ℕ) (t : State) : Type 0 where
  pub slots : t.slots ≡ s.slots
  pub stored : (j : ℕ) (p : Pin) → j < k → pin_at f j ≡ Some p → block_at t p.bank p.block ≡ slot_words (slot s j)
  pub others : (b a : ℕ) → ((j : ℕ) (p : Pin) → j < k → pin_at f j ≡ Some p → b ≡ p.bank → a ≡ p.block → ⊥)
      → block_at t b a ≡ block_at s b a

module _ (o : Parts) (fits : IsInRange o) (f : Setting) (homes : HasHomes o f) (s : State) (left : Store)
    (stands : StandsFor f s left) (free : (x : List ℕ) → register_for f x ≡ None) where
  -- one block more
  module _ (t : State) (shaped : IsShaped o t) (k : ℕ) (so_far : StoredTo f s k t) (p : Pin)
      (pinned : pin_at f k ≡ Some p) (words : List ℤ) (u : State)
      (banks : u.banks ≡ (set_block t p.bank p.block words).banks) where
    exists : p.bank < length t.banks
    exists =
        let pin = homes.pins k p pinned in
        omega (arith, fits.bank_count, shaped.bank_count, pin.bank)

    within : p.block < length (bank_blocks t p.bank)
    within =
        let pin = homes.pins k p pinned in
        omega (arith, shaped.block_counts p.bank (omega (arith, fits.bank_count, pin.bank)), pin.block)

    here : block_at u p.bank p.block ≡ words
    here =
        ap (λ bs. slice_index_or (slice_index_or bs p.bank []) p.block []) banks
        ∙ ap (λ blocks. slice_index_or blocks p.block [])
        (get_or-set_same t.banks p.bank (set (bank_blocks t p.bank) p.block words) [] exists)
        ∙ get_or-set_same (bank_blocks t p.bank) p.block words [] within

    elsewhere : (b a : ℕ) → (b ≡ p.bank → a ≢ p.block) → block_at u b a ≡ block_at t b a
    elsewhere b a apart =
        ap (λ bs. slice_index_or (slice_index_or bs b []) a []) banks
        ∙ ⊎_elim
        (λ (same : b ≡ p.bank).
        let blocks = set (bank_blocks t p.bank) p.block words in
        let moved : slice_index_or (slice_index_or (set t.banks p.bank blocks) p.bank []) a [] ≡ block_at t p.bank a =
        ap (λ blocks. slice_index_or blocks a []) (get_or-set_same t.banks p.bank blocks [] exists)
        ∙ get_or-set_other (bank_blocks t p.bank) p.block a words [] (apart same) in
        subst (λ n. slice_index_or (slice_index_or (set t.banks p.bank blocks) n []) a [] ≡ block_at t n a)
        (sym same) moved)
        (λ other.
        ap (λ blocks. slice_index_or blocks a [])
        (get_or-set_other t.banks p.bank b (set (bank_blocks t p.bank) p.block words) [] other))
        (cases_eq b p.bank)

    one-more : u.slots ≡ t.slots → words ≡ slot_words (slot s k) → StoredTo f s (k + 1) u
    one-more slots are = record {
      slots = slots ∙ so_far.slots;
      stored = λ j q below pinned'.
          ⊎_elim
          (λ (same : j ≡ k).
          let e : ◌≡◌ {A = Option Pin} (Some q) (Some p) = sym pinned' ∙ ap (pin_at f) same ∙ pinned in
          let one : q ≡ p = cc in
          ap (λ (r : Pin). block_at u r.bank r.block) one ∙ here ∙ are ∙ ap (λ n. slot_words (slot s n)) (sym same))
          (λ (other : j ≢ k).
          elsewhere q.bank q.block
          (λ same_bank same_block. other (homes.pins_apart j k q p pinned' pinned same_bank same_block))
          ∙ so_far.stored j q (omega (arith, below, other)) pinned')
          (cases_eq j k);
      others = λ b a apart.
          elsewhere b a (λ same_bank same_block. apart k p (omega arith) pinned same_bank same_block)
          ∙ so_far.others b a (λ j q below pinned'. apart j q (omega arith) pinned');
    }

  -- a slot without a pin is passed over
  passed-over : (t : State) (k : ℕ) → StoredTo f s k t → pin_at f k ≡ None → StoredTo f s (k + 1) t
  passed-over t k so_far free = record {
    slots = so_far.slots;
    stored = λ j q below pinned.
        so_far.stored j q
        (omega (arith, below, λ (same : j ≡ k). unpinned j k q pinned free same)) pinned;
    others = λ b a apart. so_far.others b a (λ j q below pinned. apart j q (omega arith) pinned);
  }
    where
      unpinned : (j k : ℕ) (q : Pin) → pin_at f j ≡ Some q → pin_at f k ≡ None → j ≡ k → ⊥
      unpinned j k q pinned free same =
          let e : ◌≡◌ {A = Option Pin} (Some q) None = sym pinned ∙ ap (pin_at f) same ∙ free in cc

  -- the store of one slot
  comes-pin_store : (t : State) → IsShaped o t → (k : ℕ) → StoredTo f s k t → (pin : Option Pin) → pin_at f k ≡ pin
      → StandsAt o t.place (pin_store k pin)
      → RunsThrough o t (pin_store k pin) (pin_shown s k pin) (StoredTo f s (k + 1))
  comes-pin_store t shaped k so_far None is at =
      comes-weaker [] (t.place + 0) 0 (StoredTo f s (k + 1))
      (comes-here t 0 (StoredTo f s (k + 1)) shaped (passed-over t k so_far is))
      refl (omega arith) (omega arith) (λ u shape h. h)
  comes-pin_store t shaped k so_far (Some p) is at =
      let held = stands.pinned k p is in
      let bound : slot t k ≡ Bound p.bank p.block held.words =
      ap (λ slots. get_or slots k Unbound) so_far.slots ∙ held.holds in
      let words : held.words ≡ slot_words (slot s k) = ap slot_words (sym held.holds) in
      comes-weaker (pin_shown s k (Some p)) (t.place + 1) (greatest_costs o (Stb k ∷ [])) (StoredTo f s (k + 1))
      (comes-stb o fits t shaped k p.bank p.block held.words (StoredTo f s (k + 1)) (standing-head (Stb k) [] at)
      bound (one-more t shaped k so_far p is held.words _ refl refl words))
      (ap (λ l. write_event p.bank p.block l ∷ []) words) refl (omega arith) (λ u shape h. h)

  -- the stores of the slots from one on
  comes-pin_stores : (pins : List (Option Pin)) (k : ℕ) (t : State) → IsShaped o t → StoredTo f s k t
      → ((i : ℕ) → get_or pins i None ≡ pin_at f (k + i)) → StandsAt o t.place (each_slot pin_store k pins)
      → RunsThrough o t (each_slot pin_store k pins) (pins_shown s k pins) (StoredTo f s (k + length pins))
  comes-pin_stores [] k t shaped so_far are at =
      let same : k ≡ k + 0 = omega arith in
      comes-weaker [] (t.place + 0) 0 (StoredTo f s (k + 0))
      (comes-here t 0 (StoredTo f s (k + 0)) shaped (subst (λ m. StoredTo f s m t) same so_far))
      refl (omega arith) (omega arith) (λ u shape h. h)
  comes-pin_stores (pin ∷ pins) k t shaped so_far are at =
      let here : k + 0 ≡ k = omega arith in
      let end : k + 1 + length pins ≡ k + length (pin ∷ pins) = omega arith in
      runs-append t (pin_store k pin) (each_slot pin_store (k + 1) pins) (pin_shown s k pin) (pins_shown s (k + 1) pins)
      (StoredTo f s (k + 1)) (StoredTo f s (k + length (pin ∷ pins))) at
      (λ first. comes-pin_store t shaped k so_far pin (sym (are 0 ∙ ap (pin_at f) here)) first)
      (λ u shape stored there.
      subst (λ n. RunsThrough o u (each_slot pin_store (k + 1) pins) (pins_shown s (k + 1) pins) (StoredTo f s n)) end
      (comes-pin_stores pins (k + 1) u shape stored (next are) there))
    where
      next : ((i : ℕ) → get_or (pin ∷ pins) i None ≡ pin_at f (k + i)) → (i : ℕ)
          → get_or pins i None ≡ pin_at f (k + 1 + i)
      next are i = let same : k + suc i ≡ k + 1 + i = omega arith in are (suc i) ∙ ap (pin_at f) same

  -- a pin is one of the setting's
  pin-below : (k : ℕ) (p : Pin) → pin_at f k ≡ Some p → k < length f.pins
  pin-below k p is =
      ⊎_elim
      (λ below. below)
      (λ past. absurd (let e : ◌≡◌ {A = Option Pin} None (Some p) = sym (get_or_past f.pins k None past) ∙ is in cc))
      (cases_lt k (length f.pins))

  -- then the banks hold the words of resident variables, and still those of other arrays
  residents-held : (u : State) → StoredTo f s (length f.pins) u → (x : List ℕ) (label : Label) (shape : Shape) (i : ℕ)
      → context_of f.decls x ≡ Some (label, shape) → (home_of f x).resident ≡ true → i < (home_of f x).length
      → word_in (block_at u (home_of f x).bank ((home_of f x).block + ((home_of f x).word + i) / words_a_block f))
      (((home_of f x).word + i) % words_a_block f)
      ≡ get_or (words_of_number left (variable_number f.decls x)) i (pos 0)
  residents-held u stored x label shape i known resident below =
      let h = home_of f x in
      let n = h.word + i in
      let k = slot_of_word f h n in
      let pin = pin_to h.bank (h.block + n / words_a_block f) in
      let pinned = resident-pinned o f homes x label shape i known resident below in
      ap (λ words. word_in words (n % words_a_block f)) (stored.stored k pin (pin-below k pin pinned) pinned)
      ∙ stands.residents x label shape i known resident (free x) below

  arrays-held : (u : State) → StoredTo f s (length f.pins) u → (x : List ℕ) (label : Label) (i : ℕ)
      → context_of f.decls x ≡ Some (label, Array) → (home_of f x).resident ≡ false → i < (home_of f x).length
      → bank_word_numbered (words_a_block f) u (home_of f x).bank (start_of_home (words_a_block f) (home_of f x) + i)
      ≡ get_or (words_of_number left (variable_number f.decls x)) i (pos 0)
  arrays-held u stored x label i known turn below =
      let h = home_of f x in
      let w = words_a_block f in
      let at = start_of_home w h + i in
      let home = homes.arrays x label known turn in
      let behind : h.block ≤ at / w =
      le-div h.block at w (pow_pos f.profile.block_log) (omega arith) in
      ap (λ words. word_in words (at % w))
      (stored.others h.bank (at / w)
      (λ j p few pinned same_bank same_block.
      ⊎_elim
      (λ before. absurd (omega (arith, behind, same_block, before)))
      (λ after.
      let past : h.block * w + h.length ≤ p.block * w =
      subst (λ n. h.block * n + h.length ≤ p.block * n) (block_words-is homes) after in
      let here : at / w * w ≡ p.block * w = ap (λ n. n * w) same_block in
      absurd (omega (arith, here, past, home.word, below, div-add-mod' at w)))
      (home.apart j p pinned (sym same_bank))))
      ∙ stands.arrays x label i known turn below

  banks-hold : (u : State) → StoredTo f s (length f.pins) u → BanksHold f u left
  banks-hold u stored = record {
    words = λ x label shape i known below. by x label shape i known below (home_of f x).resident refl;
  }
    where
      by : (x : List ℕ) (label : Label) (shape : Shape) (i : ℕ) → context_of f.decls x ≡ Some (label, shape)
          → i < (home_of f x).length → (resident : Bool) → (home_of f x).resident ≡ resident
          → bank_word_numbered (words_a_block f) u (home_of f x).bank
          (start_of_home (words_a_block f) (home_of f x) + i)
          ≡ slice_index_or (words_of_number left (variable_number f.decls x)) i (pos 0)
      by x label shape i known below true is =
          word-in_block u (home_of f x) (words_a_block f) i (pow_pos f.profile.block_log)
          ∙ residents-held u stored x label shape i known is below
      by x label Scalar i known below false is =
          absurd (true≢false (sym (homes.scalars x label known).resident ∙ is))
      by x label Array i known below false is = arrays-held u stored x label i known is below

  -- the stores, up to the halt
  pub comes-ending : IsShaped o s → StandsAt o s.place (each_slot pin_store 0 f.pins)
      → RunsThrough o s (each_slot pin_store 0 f.pins) (pins_shown s 0 f.pins) (λ u. BanksHold f u left)
  comes-ending shaped at =
      let all : 0 + length f.pins ≡ length f.pins = omega arith in
      runs-weaker s (each_slot pin_store 0 f.pins) (pins_shown s 0 f.pins) (pins_shown s 0 f.pins)
      (StoredTo f s (0 + length f.pins)) (λ u. BanksHold f u left)
      (comes-pin_stores f.pins 0 s shaped
      (record { slots = refl; stored = λ j p below. absurd (omega (arith, below)); others = λ b a apart. refl })
      (λ i. let same : i ≡ 0 + i = omega arith in ap (pin_at f) same) at)
      refl (λ u shape stored. banks-hold u (subst (λ n. StoredTo f s n u) all stored))
