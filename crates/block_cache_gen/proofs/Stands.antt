-- Whether a state represents a store depends only on its slots, its banks and the registers that no expression
-- uses, and it still does if a block of an array is loaded.
use Rattle.std.proofs.Common.{◌≡◌, ◌≢◌, ℕ, ◌+◌, ◌/◌, ◌%◌, ◌<◌, ◌≤◌, true, false, ℤ, pos, List, length, get_or, Some, refl, sym, ap, ◌∙◌, subst, ⊎_elim, arith, pow_pos}
use Rattle.std.proofs.lemmas.Bool.{cases_eq}
use Rattle.std.proofs.lemmas.List.{get_or-set_same, get_or-set_other}
use Rattle.gr_base.specs.Prelude.{Within}
use Rattle.gr_word.specs.declared.variables.Label.{Label}
use Rattle.gr_word.specs.declared.variables.Shape.{Shape}
use Rattle.gr_word.specs.declared.variables.Shape.TheVariants.{Array}
use Rattle.lt_isa.specs.Prelude.{Parts, block_words, Unbound, Bound, State, register, slot, block_at, word_in, set_slot, slot_words, bank_word_numbered}
use Rattle.src_tree.specs.Prelude.{context_of, Store, variable_number, words_of_number}
use Rattle.scratch_alloc.specs.Prelude.{pin_to}
use Rattle.scratch_alloc.proofs.Serving.{serves-within}
use Rattle.stretches.specs.Prelude.{Sets}
use Rattle.held_registers.specs.Prelude.{held_at, word_held}
use Rattle.block_cache_gen.specs.Prelude.{Held, Setting, HasHomes, Serves, home_of, slot_of_word, words_a_block, start_of_home, StandsFor, HoldsBlock, HoldsBank, IsBlockOf, first_kept}
use Rattle.block_cache_gen.proofs.HeldLabels.{held-above}
use Rattle.block_cache_gen.proofs.HomeFacts.{block_words-is, serves-same, pinned-apart}
use Rattle.block_cache_gen.proofs.WordSlots.{word-pinned}

-- by these
pub stands-like : (f : Setting) (s t : State) (store : Store) → t.slots ≡ s.slots → t.banks ≡ s.banks
    → ((r : ℕ) → first_kept f ≤ r → register t r ≡ register s r) → StandsFor f s store → StandsFor f t store
stands-like f s t store slots banks kept stands =
    subst (λ l. StandsFor f (record t { slots = l }) store) (sym slots)
    (subst (λ b. StandsFor f (record t { slots = s.slots; banks = b }) store) (sym banks) moved)
  where
    moved : StandsFor f (record t { slots = s.slots; banks = s.banks }) store
    moved = record {
      pinned = stands.pinned;
      residents = stands.residents;
      arrays = stands.arrays;
      bound = stands.bound;
      current = stands.current;
      held = λ r h at. kept r (held-above f r h at) ∙ stands.held r h at;
    }

-- where a register of an expression was set
pub stands-set : {f : Setting} {store : Store} {to : ℕ} {word : ℤ} {s t : State} → Sets s to word t → to < first_kept f
    → StandsFor f s store → StandsFor f t store
stands-set {f = f} {store = store} {s = s} {t = t} sets low stands =
    stands-like f s t store sets.slots sets.banks
    (λ r high. sets.others r (λ same. absurd (omega (arith, low, high, same)))) stands

-- what a slot is bound to, part by part
bound-bank : (b b' a a' : ℕ) (words words' : List ℤ) → Bound b a words ≡ Bound b' a' words' → b ≡ b'
bound-bank b b' a a' words words' e = cc

-- a slot's block is one
pub bound-block : (b b' a a' : ℕ) (words words' : List ℤ) → Bound b a words ≡ Bound b' a' words' → a ≡ a'
bound-block b b' a a' words words' e = cc

-- and so are its words
pub bound-words : (b b' a a' : ℕ) (words words' : List ℤ) → Bound b a words ≡ Bound b' a' words' → words ≡ words'
bound-words b b' a a' words words' e = cc

-- If the slot of an array is bound to a block of its bank, as the bank has it, and no other slot has changed, the
-- machine represents a store that has the same scalars and whose elements are in the banks.
module _ (o : Parts) (f : Setting) (homes : HasHomes o f) (s : State) (store : Store) (stands : StandsFor f s store)
    (t : State) (x : List ℕ) (label : Label) (known : context_of f.decls x ≡ Some (label, Array))
    (in_turn : (home_of f x).resident ≡ false) (a : ℕ) (words : List ℤ)
    (bound_here : slot t (home_of f x).slot ≡ Bound (home_of f x).bank a words)
    (unmoved : (j : ℕ) → j ≢ (home_of f x).slot → slot t j ≡ slot s j)
    (here : words ≡ block_at t (home_of f x).bank a)
    (kept : (r : ℕ) → first_kept f ≤ r → register t r ≡ register s r) where
  pub stands-bound : (after : Store)
      → ((y : List ℕ) (label' : Label) (shape : Shape) (i : ℕ) → context_of f.decls y ≡ Some (label', shape)
      → (home_of f y).resident ≡ true
      → get_or (words_of_number store (variable_number f.decls y)) i (pos 0)
      ≡ get_or (words_of_number after (variable_number f.decls y)) i (pos 0))
      → ((r : ℕ) (h : Held) → held_at f.held r ≡ Some h → word_held store h ≡ word_held after h)
      → ((y : List ℕ) (label' : Label) (i : ℕ) → context_of f.decls y ≡ Some (label', Array)
      → (home_of f y).resident ≡ false → i < (home_of f y).length
      → bank_word_numbered (words_a_block f) t (home_of f y).bank (start_of_home (words_a_block f) (home_of f y) + i)
      ≡ get_or (words_of_number after (variable_number f.decls y)) i (pos 0))
      → ((y : List ℕ) (label' : Label) (block : ℕ) → context_of f.decls y ≡ Some (label', Array)
      → (home_of f y).resident ≡ false → IsBlockOf (words_a_block f) (home_of f y) block
      → (home_of f y).slot ≢ (home_of f x).slot
      → block_at s (home_of f y).bank block ≡ block_at t (home_of f y).bank block)
      → StandsFor f t after
  stands-bound after residents words_same arrays others =
      let h = home_of f x in
      let home = homes.arrays x label known in_turn in
      record {
        pinned = λ k p pinned.
            subst (λ b. HoldsBlock b p.bank p.block)
            (sym (unmoved k (pinned-apart f k h.slot p pinned home.unpinned))) (stands.pinned k p pinned);
        residents = λ y label' shape i known' resident free within.
            let g = home_of f y in
            let n = g.word + i in
            let k = slot_of_word f g n in
            let pinned = word-pinned f (block_words o) label' g (homes.residents y label' shape known' resident)
            (block_words-is homes) (pow_pos o.profile.block_log) n (omega (arith, within)) in
            ap (λ b. word_in (slot_words b) (n % words_a_block f))
            (unmoved k (pinned-apart f k h.slot (pin_to g.bank (g.block + n / words_a_block f)) pinned home.unpinned))
            ∙ stands.residents y label' shape i known' resident free within
            ∙ residents y label' shape i known' resident;
        held = λ r h at. kept r (held-above f r h at) ∙ stands.held r h at ∙ words_same r h at;
        arrays = arrays;
        bound = λ y label' known' turn within.
            let g = home_of f y in
            ⊎_elim
            (λ same. record {
              block = a;
              words = words;
              holds =
                  ap (λ k. slot t k) same ∙ bound_here
                  ∙ ap (λ b. Bound b a words)
                  (serves-same home.slot (subst (Serves g.bank) same (homes.arrays y label' known' turn).slot)
                  (subst (Within 2 5) same within));
            })
            (λ other. subst (λ b. HoldsBank b g.bank) (sym (unmoved g.slot other))
            (stands.bound y label' known' turn within))
            (cases_eq g.slot h.slot);
        current = λ y label' block words' known' turn holds is_block.
            let g = home_of f y in
            ⊎_elim
            (λ same.
            let both : Bound h.bank a words ≡ Bound g.bank block words' =
            sym bound_here ∙ ap (λ k. slot t k) (sym same) ∙ holds in
            sym (bound-words h.bank g.bank a block words words' both)
            ∙ here
            ∙ ap (λ b. block_at t b a) (bound-bank h.bank g.bank a block words words' both)
            ∙ ap (λ n. block_at t g.bank n) (bound-block h.bank g.bank a block words words' both))
            (λ other.
            stands.current y label' block words' known' turn (sym (unmoved g.slot other) ∙ holds) is_block
            ∙ others y label' block known' turn is_block other)
            (cases_eq g.slot h.slot);
      }

-- with a block loaded into an array's slot the machine represents the same store
pub stands-loaded : (o : Parts) (f : Setting) → HasHomes o f → (s : State) → length s.slots ≡ 8 → (store : Store)
    → StandsFor f s store → (x : List ℕ) (label : Label) → context_of f.decls x ≡ Some (label, Array)
    → (home_of f x).resident ≡ false → (a : ℕ)
    → StandsFor f (set_slot s (home_of f x).slot (Bound (home_of f x).bank a (block_at s (home_of f x).bank a))) store
stands-loaded o f homes s slot_count store stands x label known turn a =
    let h = home_of f x in
    let found = Bound h.bank a (block_at s h.bank a) in
    let served = serves-within (homes.arrays x label known turn).slot in
    stands-bound o f homes s store stands (set_slot s h.slot found) x label known turn a (block_at s h.bank a)
    (get_or-set_same s.slots h.slot found Unbound (omega (arith, slot_count, served)))
    (λ j other. get_or-set_other s.slots h.slot j found Unbound other)
    refl (λ r high. refl) store (λ y label' shape i known' resident. refl) (λ r held at. refl) stands.arrays
    (λ y label' block known' turn is_block other. refl)
