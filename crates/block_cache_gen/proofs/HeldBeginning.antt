-- Runs of the code that loads the words that registers hold for the whole run: afterwards the machine represents the store
-- that it represented with each scalar in its slot.
use Rattle.std.proofs.Common.{◌≡◌, ◌≢◌, ℕ, suc, ◌+◌, ◌-◌, ◌/◌, ◌%◌, ◌<◌, Bool, false, ℤ, pos, List, [], ◌∷◌, length, get_or, Option, Some, None, refl, sym, ap, ◌∙◌, subst, ⊎_elim, arith, mod-eq_of_lt, pow_pos}
use Rattle.std.specs.Prelude.{nat_lt, if◌then◌else◌}
use Rattle.std.specs.List.{slice_get}
use Rattle.std.proofs.lemmas.Bool.{cases_eq, le-ltb}
use Rattle.std.proofs.lemmas.Option.{slice_get_within, get_or_from_slice_get}
use Rattle.gr_word.specs.declared.operations.Op.TheVariants.{Sub}
use Rattle.gr_word.specs.declared.variables.Label.{Label}
use Rattle.gr_word.specs.declared.variables.Shape.TheVariants.{Scalar}
use Rattle.lt_isa.specs.declared.instructions.Instr.TheVariants.{Li, Alu, Ldw}
use Rattle.lt_isa.specs.Prelude.{Parts, block_words, IsInRange, State, register, slot, word_in, slot_words, IsShaped, word_named}
use Rattle.stretches.specs.Prelude.{StandsAt, greatest_costs, Comes, RunsThrough, Sets}
use Rattle.stretches.proofs.Coming.{comes-here}
use Rattle.stretches.proofs.RunningThrough.{runs-cons, runs-one, runs-append, runs-weaker, sets-li, sets-alu, sets-ldw}
use Rattle.src_tree.specs.declared.trees.Decl.{Decl}
use Rattle.src_tree.specs.Prelude.{context_of, label_and_shape, shape_of, Store, variable_number, scalar, DeclaredOnce}
use Rattle.src_tree.proofs.VariableNumbers.{kind-at_number, number-of_declared}
use Rattle.held_registers.specs.Prelude.{held_at, word_held, IsSoundHeld}
use Rattle.held_registers.proofs.Copies.{sub-itself}
use Rattle.held_registers.proofs.Found.{held-high}
use Rattle.block_cache_gen.specs.Prelude.{home_numbered, begin_code, each_held, held_beginning, HasSecretSlot, Held, Home, Setting, HasHomes, home_of, no_home, pin_of, slot_of_word, words_a_block, further_slots, StandsFor}
use Rattle.block_cache_gen.proofs.HomeFacts.{block_words-is}
use Rattle.block_cache_gen.proofs.WordSlots.{one-block, single-slot}
use Rattle.block_cache_gen.proofs.HeldScalars.{held-listed, held-inside}
use Rattle.held_registers.specs.declared.registers.Held.TheVariants as thing

-- a setting in which no register holds anything
abbrev pub unheld : Setting → Setting
unheld f = record f { held = [] }

holds-nothing : (r : ℕ) (h : Held) → held_at [] r ≡ Some h → ⊥
holds-nothing r h at =
    let within = slice_get_within [] (r - 19) h (held-listed [] r h at) in omega (arith, within)

-- it depends on slots and banks only whether a state represents a store
pub stands-unheld : (f : Setting) (s t : State) (store : Store) → t.slots ≡ s.slots → t.banks ≡ s.banks
    → StandsFor (unheld f) s store → StandsFor (unheld f) t store
stands-unheld f s t store slots banks stands =
    subst (λ l. StandsFor (unheld f) (record t { slots = l }) store) (sym slots)
    (subst (λ b. StandsFor (unheld f) (record t { slots = s.slots; banks = b }) store) (sym banks) moved)
  where
    moved : StandsFor (unheld f) (record t { slots = s.slots; banks = s.banks }) store
    moved = record {
      pinned = stands.pinned;
      residents = stands.residents;
      arrays = stands.arrays;
      bound = stands.bound;
      current = stands.current;
      held = λ r h at. absurd (holds-nothing r h at);
    }

-- what is in a list of held things is in its register
pub held-at : (held : List Held) (i : ℕ) (h : Held) → slice_get held i ≡ Some h → held_at held (19 + i) ≡ Some h
held-at held i h e =
    let low : nat_lt (19 + i) 19 ≡ false = le-ltb (19 + i) 19 (omega arith) in
    let place : 19 + i - 19 ≡ i = omega arith in
    ap (λ (b : Bool). if b then None else slice_get held (19 + i - 19)) low ∙ ap (slice_get held) place ∙ e

-- a scalar that a register holds has a name
pub record HasName (f : Setting) (n : ℕ) : Type 0 where
  pub name : List ℕ
  pub label : Label
  pub known : context_of f.decls name ≡ Some (label, Scalar)
  pub number : variable_number f.decls name ≡ n

pub held-name : (f : Setting) → IsSoundHeld f.decls f.held → DeclaredOnce f.decls → (r n : ℕ)
    → held_at f.held r ≡ Some (thing.Scalar n) → HasName f n
held-name f sound once r n at =
    let (d, found, none) = sound.scalars r n at in
    let within : n < length f.decls = slice_get_within f.decls n d found in
    let here : get_or f.decls n d ≡ d = get_or_from_slice_get f.decls n d d found in
    let number : variable_number f.decls d.name ≡ n =
    ap (λ (e : Decl). variable_number f.decls e.name) (sym here) ∙ number-of_declared f.decls once n d within in
    record {
      name = d.name;
      label = d.label;
      known =
          kind-at_number f.decls d.name d (omega (arith, number, within))
          ∙ ap (λ k. Some (label_and_shape (get_or f.decls k d))) number
          ∙ ap (λ (e : Decl). Some (label_and_shape e)) here
          ∙ ap (λ l. Some (d.label, shape_of l)) none;
      number = number;
    }

module _ (o : Parts) (fits : IsInRange o) (f : Setting) (homes : HasHomes o f) (once : DeclaredOnce f.decls)
    (zero_slot : HasSecretSlot f) (store : Store) where
  -- the registers below one have what they hold
  pub record Fills (r : ℕ) (t : State) : Type 0 where
    pub stands : StandsFor (unheld f) t store
    pub filled : (q : ℕ) (h : Held) → held_at f.held q ≡ Some h → q < r → register t q ≡ word_held store h

  -- one more
  fills-set : (r : ℕ) (h : Held) (t u : State) (word : ℤ) → held_at f.held r ≡ Some h → word ≡ word_held store h
      → Fills r t → Sets t r word u → Fills (r + 1) u
  fills-set r h t u word at is so_far sets = record {
    stands = stands-unheld f t u store sets.slots sets.banks so_far.stands;
    filled = λ q g there below.
        ⊎_elim
        (λ (same : q ≡ r).
        let e : ◌≡◌ {A = Option Held} (Some h) (Some g) = sym at ∙ ap (held_at f.held) (sym same) ∙ there in
        let one : h ≡ g = cc in
        ap (register u) same ∙ sets.value ∙ is ∙ ap (word_held store) one)
        (λ (other : q ≢ r). sets.others q other ∙ so_far.filled q g there (omega (arith, below, other)))
        (cases_eq q r);
  }

  -- register 0 holds nothing
  fills-low : (r : ℕ) (t u : State) (word : ℤ) → Fills r t → Sets t 0 word u → Fills r u
  fills-low r t u word so_far sets = record {
    stands = stands-unheld f t u store sets.slots sets.banks so_far.stands;
    filled = λ q g there below.
        let high = held-high f.held q g there in
        sets.others q (λ same. absurd (omega (arith, high, same))) ∙ so_far.filled q g there below;
  }

  -- the secret zero
  fills-zero : (r : ℕ) (t : State) → IsShaped o t → held_at f.held r ≡ Some thing.SecretZero → Fills r t
      → StandsAt o t.place (Ldw r 1 0 ∷ Alu Sub r r r ∷ [])
      → RunsThrough o t (Ldw r 1 0 ∷ Alu Sub r r r ∷ []) [] (Fills (r + 1))
  fills-zero r t shaped at so_far stands =
      let inside = held-inside homes.held r thing.SecretZero at in
      let (p, pinned, secret) = zero_slot inside.1 in
      let holds = so_far.stands.pinned 1 p pinned in
      let old = word_in holds.words (word_named o (register t 0)) in
      let load = Ldw r 1 0 in
      let less = Alu Sub r r r in
      runs-cons t load (less ∷ []) [] [] (Sets t r old) (Fills (r + 1)) stands
      (sets-ldw o fits t shaped r 1 0 p.bank p.block holds.words old inside.0 holds.holds refl)
      (λ u shape sets there.
      runs-weaker u (less ∷ []) [] [] (Sets u r (pos 0)) (Fills (r + 1))
      (runs-one u less [] (Sets u r (pos 0)) there
      (sets-alu o fits u shape Sub r r r (pos 0) inside.0 (sub-itself (register u r))))
      refl
      (λ v shape' sets'.
      fills-set r thing.SecretZero t v (pos 0) at refl so_far
      (record {
        value = sets'.value;
        others = λ q other. sets'.others q other ∙ sets.others q other;
        slots = sets'.slots ∙ sets.slots;
        banks = sets'.banks ∙ sets.banks;
      })))

  -- a number
  fills-number : (r : ℕ) (z : ℤ) (t : State) → IsShaped o t → held_at f.held r ≡ Some (thing.Number z) → Fills r t
      → StandsAt o t.place (Li r z ∷ []) → RunsThrough o t (Li r z ∷ []) [] (Fills (r + 1))
  fills-number r z t shaped at so_far stands =
      runs-weaker t (Li r z ∷ []) [] [] (Sets t r z) (Fills (r + 1))
      (runs-one t (Li r z) [] (Sets t r z) stands
      (sets-li o fits t shaped r z (held-inside homes.held r (thing.Number z) at).0))
      refl
      (λ u shape sets. fills-set r (thing.Number z) t u z at refl so_far sets)

  -- a scalar
  fills-scalar : (r n : ℕ) (t : State) → IsShaped o t → held_at f.held r ≡ Some (thing.Scalar n) → Fills r t
      → StandsAt o t.place (begin_code f r (thing.Scalar n))
      → RunsThrough o t (begin_code f r (thing.Scalar n)) [] (Fills (r + 1))
  fills-scalar r n t shaped at so_far stands =
      let named = held-name f homes.held once r n at in
      let x = named.name in
      let h = home_of f x in
      let g = home_numbered f n in
      let same : h ≡ g = ap (λ k. get_or f.homes k no_home) named.number in
      let word_same : g.word ≡ h.word = ap (λ (z : Home). z.word) (sym same) in
      let slot_same : g.slot ≡ h.slot = ap (λ (z : Home). z.slot) (sym same) in
      let one = homes.scalars x named.label named.known in
      let home = homes.residents x named.label Scalar named.known one.resident in
      let load = Ldw r g.slot 0 in
      let value = scalar store n in
      runs-cons t (Li 0 (pos g.word)) (load ∷ []) [] [] (Sets t 0 (pos g.word)) (Fills (r + 1)) stands
      (sets-li o fits t shaped 0 (pos g.word) (omega arith))
      (λ u shape sets there.
      let before = fills-low r t u (pos g.word) so_far sets in
      let holds = before.stands.pinned h.slot (pin_of h) home.pinned in
      let inside = one-block f (block_words o) named.label h home (block_words-is homes) (pow_pos o.profile.block_log)
      one.single in
      let slot_one = single-slot h.slot (further_slots h) ((h.word + 0) / words_a_block f) one.single in
      let word_low : (h.word + 0) % words_a_block f ≡ h.word + 0 =
      mod-eq_of_lt (omega (arith, inside, one.length, block_words-is homes)) in
      let place : word_named o (register u 0) ≡ h.word + 0 =
      ap (λ word. word_named o word) sets.value
      ∙ mod-eq_of_lt (omega (arith, inside, one.length, word_same)) ∙ omega (arith, word_same) in
      let reads : word_in holds.words (word_named o (register u 0)) ≡ value =
      ap (λ k. word_in holds.words k) place
      ∙ ap (λ b. word_in (slot_words b) (h.word + 0)) (sym holds.holds)
      ∙ ap (λ j. word_in (slot_words (slot u j)) (h.word + 0)) (sym slot_one)
      ∙ ap (λ i. word_in (slot_words (slot u (slot_of_word f h (h.word + 0)))) i) (sym word_low)
      ∙ before.stands.residents x named.label Scalar 0 named.known one.resident refl (omega (arith, one.length))
      ∙ ap (scalar store) named.number in
      runs-weaker u (load ∷ []) [] [] (Sets u r value) (Fills (r + 1))
      (runs-one u load [] (Sets u r value) there
      (sets-ldw o fits u shape r g.slot 0 h.bank h.block holds.words value
      (held-inside homes.held r (thing.Scalar n) at).0 (ap (slot u) slot_same ∙ holds.holds) reads))
      refl
      (λ v shape' sets'. fills-set r (thing.Scalar n) u v value at refl before sets'))

  fills-one : (r : ℕ) (h : Held) (t : State) → IsShaped o t → held_at f.held r ≡ Some h → Fills r t
      → StandsAt o t.place (begin_code f r h) → RunsThrough o t (begin_code f r h) [] (Fills (r + 1))
  fills-one r thing.SecretZero t shaped at so_far stands = fills-zero r t shaped at so_far stands
  fills-one r (thing.Number z) t shaped at so_far stands = fills-number r z t shaped at so_far stands
  fills-one r (thing.Scalar n) t shaped at so_far stands = fills-scalar r n t shaped at so_far stands

  -- the registers from one on
  fills-each : (hs : List Held) (r : ℕ) (t : State) → IsShaped o t
      → ((i : ℕ) (h : Held) → slice_get hs i ≡ Some h → held_at f.held (r + i) ≡ Some h) → Fills r t
      → StandsAt o t.place (each_held (begin_code f) r hs)
      → RunsThrough o t (each_held (begin_code f) r hs) [] (Fills (r + length hs))
  fills-each [] r t shaped are so_far stands =
      let same : r ≡ r + 0 = omega arith in
      subst (λ p. Comes o t [] p (greatest_costs o []) (Fills (r + 0))) (let e : t.place ≡ t.place + 0 = omega arith in e)
      (comes-here t (greatest_costs o []) (Fills (r + 0)) shaped (subst (λ q. Fills q t) same so_far))
  fills-each (h ∷ hs) r t shaped are so_far stands =
      let here : r + 0 ≡ r = omega arith in
      let end : r + 1 + length hs ≡ r + length (h ∷ hs) = omega arith in
      runs-append t (begin_code f r h) (each_held (begin_code f) (r + 1) hs) [] [] (Fills (r + 1))
      (Fills (r + length (h ∷ hs))) stands
      (λ first. fills-one r h t shaped (ap (held_at f.held) (sym here) ∙ are 0 h refl) so_far first)
      (λ u shape filled there.
      subst (λ q. RunsThrough o u (each_held (begin_code f) (r + 1) hs) [] (Fills q)) end
      (fills-each hs (r + 1) u shape (next are) filled there))
    where
      next : ((i : ℕ) (g : Held) → slice_get (h ∷ hs) i ≡ Some g → held_at f.held (r + i) ≡ Some g)
          → (i : ℕ) (g : Held) → slice_get hs i ≡ Some g → held_at f.held (r + 1 + i) ≡ Some g
      next are i g e =
          let same : r + 1 + i ≡ r + suc i = omega arith in ap (held_at f.held) same ∙ are (suc i) g e

  -- all of them
  stands-filled : (t : State) → Fills (19 + length f.held) t → StandsFor f t store
  stands-filled t filled = record {
    pinned = filled.stands.pinned;
    residents = λ x label shape i known resident free inside.
        filled.stands.residents x label shape i known resident refl inside;
    arrays = filled.stands.arrays;
    bound = filled.stands.bound;
    current = filled.stands.current;
    held = λ r h at.
        let within = slice_get_within f.held (r - 19) h (held-listed f.held r h at) in
        let high = held-high f.held r h at in
        filled.filled r h at (omega (arith, within, high));
  }

  -- the code at the beginning of a program
  pub runs-held_beginning : (t : State) → IsShaped o t → StandsFor (unheld f) t store
      → StandsAt o t.place (held_beginning f) → RunsThrough o t (held_beginning f) [] (λ u. StandsFor f u store)
  runs-held_beginning t shaped stands at =
      runs-weaker t (held_beginning f) [] [] (Fills (19 + length f.held)) (λ u. StandsFor f u store)
      (fills-each f.held 19 t shaped (held-at f.held)
      (record { stands = stands; filled = λ q h there below. none q h there below }) at)
      refl
      (λ u shape filled. stands-filled u filled)
    where
      none : (q : ℕ) (h : Held) → held_at f.held q ≡ Some h → q < 19 → register t q ≡ word_held store h
      none q h there below = let high = held-high f.held q h there in absurd (omega (arith, high, below))
