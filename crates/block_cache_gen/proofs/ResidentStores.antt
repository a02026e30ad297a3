-- A state represents a store in which one word of a resident variable is changed, if that word is changed in its slot.
use Rattle.std.proofs.Common.{◌≡◌, ◌≢◌, ℕ, ◌+◌, ◌*◌, ◌<◌, true, ℤ, pos, List, length, get_or, set, [], Option, Some, None, ◌/◌, ◌%◌, sym, ap, ◌∙◌, subst, ⊎_elim, arith, add-mul, div-add-mod', mod-lt, mod-eq_of_lt, pow_pos}
use Rattle.std.proofs.Math.Nat.{div-eq_of_lt}
use Rattle.std.proofs.lemmas.Bool.{cases_eq, true≢false}
use Rattle.std.proofs.lemmas.List.{get_or-set_same, get_or-set_other}
use Rattle.gr_word.specs.declared.variables.Label.{Label}
use Rattle.gr_word.specs.declared.variables.Shape.{Shape}
use Rattle.lt_isa.specs.Prelude.{Parts, block_words, Slot, Unbound, Bound, State, slot, word_in, set_slot, slot_words}
use Rattle.src_tree.specs.Prelude.{context_of, Store, variable_number, words_of_number, with_word}
use Rattle.src_tree.proofs.VariableNumbers.{number-below}
use Rattle.block_cache_gen.specs.Prelude.{Home, Pin, Setting, HasHomes, pin_at, no_home, home_of, slot_of_word, words_a_block, register_for, further_slots, StandsFor, FitsHomes, HoldsBlock, HoldsBank}
use Rattle.scratch_alloc.specs.Prelude.{pin_to}
use Rattle.block_cache_gen.proofs.HomeFacts.{block_words-is, pinned-apart}
use Rattle.block_cache_gen.proofs.WordSlots.{one-block, single-slot, word-pinned}
use Rattle.block_cache_gen.proofs.HeldScalars.{held-words}
use Rattle.block_cache_gen.proofs.Stores.{words-other, words-same}

-- two pins of one slot are one
pin-one : (f : Setting) (j k : ℕ) (p q : Pin) → pin_at f j ≡ Some p → pin_at f k ≡ Some q → j ≡ k → p ≡ q
pin-one f j k p q first second same =
    let e : ◌≡◌ {A = Option Pin} (Some p) (Some q) = sym first ∙ ap (pin_at f) same ∙ second in cc

module _ (o : Parts) (f : Setting) (homes : HasHomes o f) (s : State)
    (slot_count : length s.slots ≡ 8) (store : Store)
    (store_fits : FitsHomes f store) (stands : StandsFor f s store) (x : List ℕ) (label : Label) (shape : Shape)
    (known : context_of f.decls x ≡ Some (label, shape)) (resident : (home_of f x).resident ≡ true)
    (free : register_for f x ≡ None) (n : ℕ)
    (within : n < (home_of f x).length) (words : List ℤ)
    (held : slot s (slot_of_word f (home_of f x) ((home_of f x).word + n))
    ≡ Bound (home_of f x).bank ((home_of f x).block + ((home_of f x).word + n) / words_a_block f) words)
    (size : length words ≡ block_words o) (word : ℤ) where
  abbrev h : Home
  h = home_of f x

  -- the number of the word from the first word of the first block on, and its slot, block and number there
  abbrev number : ℕ
  number = h.word + n

  abbrev here : ℕ
  here = slot_of_word f h number

  abbrev block : ℕ
  block = h.block + number / words_a_block f

  abbrev at : ℕ
  at = number % words_a_block f

  pinned-word : (y : List ℕ) (label' : Label) (shape' : Shape) → context_of f.decls y ≡ Some (label', shape')
      → (home_of f y).resident ≡ true → (i : ℕ) → i < (home_of f y).length
      → pin_at f (slot_of_word f (home_of f y) ((home_of f y).word + i))
      ≡ Some (pin_to (home_of f y).bank ((home_of f y).block + ((home_of f y).word + i) / words_a_block f))
  pinned-word y label' shape' known' resident' i inside =
      word-pinned f (block_words o) label' (home_of f y) (homes.residents y label' shape' known' resident')
      (block_words-is homes) (pow_pos o.profile.block_log) ((home_of f y).word + i) (omega (arith, inside))

  pinned-here : pin_at f here ≡ Some (pin_to h.bank block)
  pinned-here = pinned-word x label shape known resident n within

  -- two words of one slot with one number there are one word of their bank
  same-word : (y : List ℕ) (label' : Label) (shape' : Shape) → context_of f.decls y ≡ Some (label', shape')
      → (home_of f y).resident ≡ true → (i : ℕ) → i < (home_of f y).length
      → slot_of_word f (home_of f y) ((home_of f y).word + i) ≡ here
      → ((home_of f y).word + i) % words_a_block f ≡ at
      → ((home_of f y).bank ≡ h.bank)
      × ((home_of f y).block * words_a_block f + ((home_of f y).word + i) ≡ h.block * words_a_block f + number)
  same-word y label' shape' known' resident' i inside same_slot same_number =
      let g = home_of f y in
      let w = words_a_block f in
      let m = g.word + i in
      let one : pin_to g.bank (g.block + m / w) ≡ pin_to h.bank block =
      pin-one f (slot_of_word f g m) here (pin_to g.bank (g.block + m / w)) (pin_to h.bank block)
      (pinned-word y label' shape' known' resident' i inside) pinned-here same_slot in
      let blocks : (g.block + m / w) * w ≡ (h.block + number / w) * w = ap (λ (p : Pin). p.block * w) one in
      let first = div-add-mod' m w in
      let second = div-add-mod' number w in
      let left = add-mul g.block (m / w) w in
      let right = add-mul h.block (number / w) w in
      (ap (λ (p : Pin). p.bank) one, omega (arith, blocks, first, second, left, right, same_number))

  -- so another variable's word of the slot is another word of it
  other-variable : (y : List ℕ) (label' : Label) (shape' : Shape) → context_of f.decls y ≡ Some (label', shape')
      → (home_of f y).resident ≡ true → variable_number f.decls y ≢ variable_number f.decls x
      → (i : ℕ) → i < (home_of f y).length
      → slot_of_word f (home_of f y) ((home_of f y).word + i) ≡ here
      → ((home_of f y).word + i) % words_a_block f ≢ at
  other-variable y label' shape' known' resident' other i inside same_slot same_number =
      let g = home_of f y in
      let same = same-word y label' shape' known' resident' i inside same_slot same_number in
      let number_same = same.1 in
      let width = block_words-is homes in
      let first : g.block * block_words o ≡ g.block * words_a_block f = ap (λ w. g.block * w) width in
      let second : h.block * block_words o ≡ h.block * words_a_block f = ap (λ w. h.block * w) width in
      let within_x = number-below f.decls x (label, shape) known in
      let within_y = number-below f.decls y (label', shape') known' in
      ⊎_elim
      (λ before. omega (arith, before, number_same, first, second, inside, within))
      (λ after. omega (arith, after, number_same, first, second, inside, within))
      (homes.apart (variable_number f.decls y) (variable_number f.decls x) (omega (arith, homes.count, within_y))
      (omega (arith, homes.count, within_x)) other same.0)

  abbrev found : Slot
  found = Bound h.bank block (set words at word)

  abbrev t : State
  t = set_slot s here found

  bound_here : slot t here ≡ found
  bound_here =
      let pin = homes.pins here (pin_to h.bank block) pinned-here in
      get_or-set_same s.slots here found Unbound (omega (arith, slot_count, pin.few))

  unmoved : (j : ℕ) → j ≢ here → slot t j ≡ slot s j
  unmoved j other = get_or-set_other s.slots here j found Unbound other

  -- any other word is as before
  kept-word : (k i : ℕ) → (k ≡ here → i ≢ at) → word_in (slot_words (slot t k)) i ≡ word_in (slot_words (slot s k)) i
  kept-word k i other =
      ⊎_elim
      (λ same.
      ap (λ j. word_in (slot_words (slot t j)) i) same
      ∙ ap (λ b. word_in (slot_words b) i) bound_here
      ∙ get_or-set_other words at i word (pos 0) (other same)
      ∙ ap (λ b. word_in (slot_words b) i) (sym held)
      ∙ ap (λ j. word_in (slot_words (slot s j)) i) (sym same))
      (λ differs. ap (λ b. word_in (slot_words b) i) (unmoved k differs))
      (cases_eq k here)

  -- with the word set the machine represents the store with it
  pub stands-resident_set : StandsFor f
      (set_slot s (slot_of_word f (home_of f x) ((home_of f x).word + n))
      (Bound (home_of f x).bank ((home_of f x).block + ((home_of f x).word + n) / words_a_block f)
      (set words (((home_of f x).word + n) % words_a_block f) word)))
      (with_word store (variable_number f.decls x) n word)
  stands-resident_set =
      let k = variable_number f.decls x in
      let w = words_a_block f in
      let in_store : k < length store = omega (arith, number-below f.decls x (label, shape) known, store_fits.count) in
      let long : length (words_of_number store k) ≡ h.length = store_fits.lengths x label shape known in
      let low : at < length words =
      let e = mod-lt number (pow_pos f.profile.block_log) in omega (arith, e, size, block_words-is homes) in
      record {
        pinned = λ j p pinned.
            ⊎_elim
            (λ same.
            let one : p ≡ pin_to h.bank block = pin-one f j here p (pin_to h.bank block) pinned pinned-here same in
            record {
              words = set words at word;
              holds = ap (λ n. slot t n) same ∙ bound_here
                  ∙ ap (λ (q : Pin). Bound q.bank q.block (set words at word)) (sym one);
            })
            (λ other. subst (λ b. HoldsBlock b p.bank p.block) (sym (unmoved j other)) (stands.pinned j p pinned))
            (cases_eq j here);
        residents = λ y label' shape' i known' resident' free' inside.
            let g = home_of f y in
            let m = variable_number f.decls y in
            ⊎_elim
            (λ same.
            let home_same : g ≡ h = ap (λ n. get_or f.homes n no_home) same in
            let store_same : words_of_number (with_word store k n word) m ≡ set (words_of_number store k) n word =
            ap (λ v. words_of_number (with_word store k n word) v) same ∙ words-same store k n word in_store in
            ⊎_elim
            (λ one.
            let number_same : g.word + i ≡ number =
            let e = ap (λ (z : Home). z.word) home_same in omega (arith, e, one) in
            ap (λ (z : Home). word_in (slot_words (slot t (slot_of_word f z (g.word + i)))) ((g.word + i) % w)) home_same
            ∙ ap (λ v. word_in (slot_words (slot t (slot_of_word f h v))) (v % w)) number_same
            ∙ ap (λ b. word_in (slot_words b) at) bound_here
            ∙ get_or-set_same words at word (pos 0) low
            ∙ sym (get_or-set_same (words_of_number store k) n word (pos 0) (omega (arith, long, within)))
            ∙ ap (λ v. get_or (set (words_of_number store k) n word) v (pos 0)) (sym one))
            (λ there.
            kept-word (slot_of_word f g (g.word + i)) ((g.word + i) % w)
            (λ same_slot same_number.
            let whole = (same-word y label' shape' known' resident' i inside same_slot same_number).1 in
            let first = ap (λ (z : Home). z.block * w + z.word) home_same in
            there (omega (arith, whole, first)))
            ∙ stands.residents y label' shape' i known' resident' free' inside
            ∙ ap (λ v. get_or (words_of_number store v) i (pos 0)) same
            ∙ sym (get_or-set_other (words_of_number store k) n i word (pos 0) there))
            (cases_eq i n)
            ∙ ap (λ l. get_or l i (pos 0)) (sym store_same))
            (λ other.
            kept-word (slot_of_word f g (g.word + i)) ((g.word + i) % w)
            (other-variable y label' shape' known' resident' other i inside)
            ∙ stands.residents y label' shape' i known' resident' free' inside
            ∙ ap (λ l. get_or l i (pos 0)) (sym (words-other store k n m word other)))
            (cases_eq m k);
        arrays = λ y label' i known' turn inside.
            let m = variable_number f.decls y in
            stands.arrays y label' i known' turn inside
            ∙ ap (λ l. get_or l i (pos 0))
            (sym (words-other store k n m word
            (λ same. true≢false
            (sym resident ∙ ap (λ v. (get_or f.homes v no_home).resident) (sym same) ∙ turn))));
        bound = λ y label' known' turn served.
            let g = home_of f y in
            let none = (homes.arrays y label' known' turn).unpinned in
            subst (λ b. HoldsBank b g.bank)
            (sym (unmoved g.slot (λ same. pinned-apart f here g.slot (pin_to h.bank block) pinned-here none (sym same))))
            (stands.bound y label' known' turn served);
        current = λ y label' block' words' known' turn holds is_block.
            let g = home_of f y in
            let none = (homes.arrays y label' known' turn).unpinned in
            stands.current y label' block' words' known' turn
            (sym (unmoved g.slot (λ same. pinned-apart f here g.slot (pin_to h.bank block) pinned-here none (sym same)))
            ∙ holds)
            is_block;
        held = λ r thing at. stands.held r thing at ∙ held-words f x free store n word r thing at;
      }

-- the same of a variable in one block
pub stands-single_set : (o : Parts) (f : Setting) (homes : HasHomes o f) (s : State) → length s.slots ≡ 8
    → (store : Store) → FitsHomes f store → StandsFor f s store → (x : List ℕ) (label : Label) (shape : Shape)
    → context_of f.decls x ≡ Some (label, shape) → (home_of f x).resident ≡ true → register_for f x ≡ None
    → further_slots (home_of f x) ≡ [] → (n : ℕ) → n < (home_of f x).length → (words : List ℤ)
    → slot s (home_of f x).slot ≡ Bound (home_of f x).bank (home_of f x).block words → length words ≡ block_words o
    → (word : ℤ)
    → StandsFor f
    (set_slot s (home_of f x).slot
    (Bound (home_of f x).bank (home_of f x).block (set words ((home_of f x).word + n) word)))
    (with_word store (variable_number f.decls x) n word)
stands-single_set o f homes s slot_count store store_fits stands x label shape known resident free single n within words
    held size word =
    let h = home_of f x in
    let w = words_a_block f in
    let number = h.word + n in
    let inside = one-block f (block_words o) label h (homes.residents x label shape known resident) (block_words-is homes)
    (pow_pos o.profile.block_log) single in
    let low : number < w = omega (arith, inside, within, block_words-is homes) in
    let slot_one : slot_of_word f h number ≡ h.slot = single-slot h.slot (further_slots h) (number / w) single in
    let block_one : h.block + number / w ≡ h.block =
    let none : number / w ≡ 0 = div-eq_of_lt low in omega (arith, none) in
    let P : ℕ → ℕ → ℕ → Type 0 =
    λ k b i.
    StandsFor f (set_slot s k (Bound h.bank b (set words i word))) (with_word store (variable_number f.decls x) n word) in
    subst (λ k. P k h.block number) slot_one
    (subst (λ b. P (slot_of_word f h number) b number) block_one
    (subst (λ i. P (slot_of_word f h number) (h.block + number / w) i) (mod-eq_of_lt low)
    (stands-resident_set o f homes s slot_count store store_fits stands x label shape known resident free n within words
    (ap (slot s) slot_one ∙ held ∙ ap (λ b. Bound h.bank b words) (sym block_one)) size word)))
