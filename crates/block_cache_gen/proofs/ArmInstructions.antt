-- Single instructions of secret code in an arm, by what is known before them.
use Rattle.std.proofs.Common.{◌≡◌, ℕ, ◌<◌, ◌^◌, ℤ, pos, Bool, true, false, List, [], ◌∷◌, length, Option, Some, None, refl, sym, ap, ◌∙◌, arith, length-set, get_or-set_same, get_or-set_other}
use Rattle.std.specs.Prelude.{if◌then◌else◌}
use Rattle.std.proofs.lemmas.Bool.{eqb-true}
use Rattle.gr_word.specs.declared.operations.Op.{Op}
use Rattle.gr_word.specs.declared.operations.Op.TheVariants.{Remu}
use Rattle.lt_isa.specs.declared.instructions.Instr.{Instr}
use Rattle.lt_isa.specs.declared.instructions.Instr.TheVariants.{Li, Alu, Ldb, Stb, Ldw, Stw}
use Rattle.lt_isa.specs.Prelude.{Parts, is_ram, is_eram, blocks_of, operation_cost}
use Rattle.symbolic_values.specs.Prelude.{Value, Const, Apply}
use Rattle.trace_patterns.specs.Prelude.{RamRead, EncRead, EncWrite, Oram, Loaded, SymSlot, AnySlot, RamSlot, EramSlot, OramSlot, SymState, tree_held, slot_held, hold_tree, hold_slot, slot_bank, Single, Goes, gap, event, applied_trees, at_tree, named_block, word_tree, word_held, if_bound, if_stored, stores, single}
use Rattle.stretches.specs.Prelude.{Show, Gap, Seen, pattern_of_one}
use Rattle.lt_checker.proofs.Singles.{IsKnown, IsHidden}
use Rattle.stretches.proofs.ArmCode.{Walked, walked-one}
use Rattle.block_cache_gen.specs.Prelude.{Setting, blocks_set, operation_gap, word_gap, word_read, block_named_by, plain_loaded, encrypted_loaded, block_loaded, load_shows, store_shows}

-- what is made of a load by its bank
abbrev plain_load : Parts → SymState → ℕ → ℕ → Option Value → Single
plain_load o s slot bank block =
    at_tree block (λ t.
    let number = named_block o bank t in
    Goes (event (RamRead number)) (hold_slot s slot (RamSlot number Loaded)))

abbrev encrypted_load : Parts → SymState → ℕ → ℕ → Option Value → Single
encrypted_load o s slot bank block =
    at_tree block (λ t.
    let number = named_block o bank t in
    Goes (event (EncRead number)) (hold_slot s slot (EramSlot number)))

-- where a block is loaded its number has a tree in plain and encrypted memory, and the slot is bound to the bank
abbrev pub IsSeen : ℕ → Option Value → Type 0
IsSeen bank block = bank < 2 → (t : Value) × (block ≡ Some t)

-- a loaded block is known to be of its bank
pub loaded-bank : (f : Setting) (bank : ℕ) (block : Option Value) → IsSeen bank block
    → slot_bank (block_loaded f bank block) ≡ Some bank
loaded-bank f bank block seen = by (is_ram bank) refl (is_eram bank) refl block seen
  where
    by : (ram : Bool) → is_ram bank ≡ ram → (eram : Bool) → is_eram bank ≡ eram → (t : Option Value)
        → IsSeen bank t
        → slot_bank (if ram then plain_loaded f t else (if eram then encrypted_loaded f t else OramSlot bank))
        ≡ Some bank
    by true is eram other (Some t) h = ap Some (sym (eqb-true bank 0 is))
    by true is eram other None h =
        let at : bank ≡ 0 = eqb-true bank 0 is in
        let none = h (omega arith) in
        absurd (let e : ◌≡◌ {A = Option Value} None (Some none.0) = none.1 in cc)
    by false is true other (Some t) h = ap Some (sym (eqb-true bank 1 other))
    by false is true other None h =
        let at : bank ≡ 1 = eqb-true bank 1 other in
        let none = h (omega arith) in
        absurd (let e : ◌≡◌ {A = Option Value} None (Some none.0) = none.1 in cc)
    by false is false other t h = refl

-- code that sets one register, and keeps the other registers and the slots
pub record Sets (o : Parts) (depth : ℕ) (s : SymState) (code : List Instr) (shows : List Show) (r : ℕ)
    (v : Option Value) : Type 0 where
  pub state : SymState
  pub walked : Walked o depth s code shows state
  pub held : tree_held state r ≡ v
  pub other : (q : ℕ) → (q ≡ r → ⊥) → tree_held state q ≡ tree_held s q
  pub slots : state.slots ≡ s.slots
  pub registers : length state.registers ≡ 32

module _ (o : Parts) (depth : ℕ) where
  pub sets-held : (s : SymState) (i : Instr) (x : Show) (r : ℕ) (v : Option Value)
      → length s.registers ≡ 32 → r < 32 → single o s i ≡ Goes (pattern_of_one x) (hold_tree s r v)
      → Sets o depth s (i ∷ []) (x ∷ []) r v
  sets-held s i x r v sized inside goes = record {
    state = hold_tree s r v;
    walked = walked-one o depth s i x (hold_tree s r v) goes;
    held = get_or-set_same s.registers r v None (omega (arith, sized));
    other = λ q ne. get_or-set_other s.registers r q v None ne;
    slots = refl;
    registers = length-set s.registers r v ∙ sized;
  }

  -- a number is written to a register
  pub sets-li : (s : SymState) (r : ℕ) (z : ℤ) → length s.registers ≡ 32 → r < 32
      → Sets o depth s (Li r z ∷ []) (Gap 1 ∷ []) r (Some (Const z))
  unfolding single
  sets-li s r z sized inside = sets-held s (Li r z) (Gap 1) r (Some (Const z)) sized inside refl

  module _ (f : Setting) (profile : o.profile ≡ f.profile) where
    -- the result of an operation is written to a register
    pub sets-alu : (s : SymState) (op : Op) (r ra rb : ℕ) (a b : Option Value) → length s.registers ≡ 32 → r < 32
        → tree_held s ra ≡ a → tree_held s rb ≡ b
        → Sets o depth s (Alu op r ra rb ∷ []) (operation_gap f op ∷ []) r (applied_trees op a b)
    unfolding single
    sets-alu s op r ra rb a b sized inside left right =
        let goes : single o s (Alu op r ra rb)
        ≡ Goes (gap (operation_cost f.profile op)) (hold_tree s r (applied_trees op a b)) =
        λ i. Goes (gap (operation_cost (profile i) op)) (hold_tree s r (applied_trees op (left i) (right i))) in
        sets-held s (Alu op r ra rb) (operation_gap f op) r (applied_trees op a b) sized inside goes

    word_held-read : (bound : SymSlot) (t : Option Value) → word_held o bound t ≡ word_read f bound t
    word_held-read (RamSlot block origin) (Some t) =
        λ i. Some (word_tree origin block (Apply Remu t (Const (pos (2 ^ (profile i).block_log)))))
    word_held-read (RamSlot block origin) None = refl
    word_held-read other t = refl

    bound-goes : (bound : SymSlot) (go : Single) → IsKnown bound → if_bound bound go ≡ go
    bound-goes AnySlot go h = absurd h
    bound-goes other go h = refl

    -- a word of a slot's block is written to a register
    pub sets-ldw : (s : SymState) (r slot ro : ℕ) (bound : SymSlot) (place : Option Value)
        → length s.registers ≡ 32 → r < 32 → slot_held s slot ≡ bound → IsKnown bound → tree_held s ro ≡ place
        → Sets o depth s (Ldw r slot ro ∷ []) (word_gap f ∷ []) r (word_read f bound place)
    unfolding single
    sets-ldw s r slot ro bound place sized inside at is_bound named =
        let read = word_held-read bound place in
        let goes : single o s (Ldw r slot ro) ≡ Goes (gap f.profile.word) (hold_tree s r (word_read f bound place)) =
        (λ i. if_bound (at i)
        (Goes (gap (profile i).word) (hold_tree s r (word_held o (at i) (named i)))))
        ∙ bound-goes bound (Goes (gap f.profile.word) (hold_tree s r (word_held o bound place))) is_bound
        ∙ ap (λ (v : Option Value). Goes (gap f.profile.word) (hold_tree s r v)) read in
        sets-held s (Ldw r slot ro) (word_gap f) r (word_read f bound place) sized inside goes

    -- a word is stored in a slot
    stored-goes : (bound : SymSlot) (go : Single) → IsHidden bound → if_stored bound go ≡ go
    stored-goes AnySlot go h = absurd h
    stored-goes (RamSlot block origin) go h = absurd h
    stored-goes (EramSlot block) go h = refl
    stored-goes (OramSlot bank) go h = refl

    -- a word is stored into a slot of a secret bank
    pub walked-stw : (s : SymState) (rs slot ro : ℕ) → IsHidden (slot_held s slot)
        → Walked o depth s (Stw rs slot ro ∷ []) (word_gap f ∷ []) s
    unfolding single
    walked-stw s rs slot ro stored =
        walked-one o depth s (Stw rs slot ro) (word_gap f) s
        (stored-goes (slot_held s slot) (Goes (gap o.profile.word) s) stored ∙ λ i. Goes (gap (profile i).word) s)

    -- and a slot's block
    pub walked-stb : (s : SymState) (slot : ℕ) (bound : SymSlot) → slot_held s slot ≡ bound → IsHidden bound
        → Walked o depth s (Stb slot ∷ []) (store_shows bound) s
    unfolding single
    walked-stb s slot bound at stored = by bound at stored
      where
        goes : (kept : SymSlot) → slot_held s slot ≡ kept → single o s (Stb slot) ≡ stores s kept
        goes kept e = ap (stores s) e

        by : (kept : SymSlot) → slot_held s slot ≡ kept → IsHidden kept
            → Walked o depth s (Stb slot ∷ []) (store_shows kept) s
        by AnySlot e h = absurd h
        by (RamSlot block origin) e h = absurd h
        by (EramSlot block) e h =
            walked-one o depth s (Stb slot) (Seen (EncWrite block)) s (goes (EramSlot block) e)
        by (OramSlot bank) e h = walked-one o depth s (Stb slot) (Seen (Oram bank)) s (goes (OramSlot bank) e)

    -- a block is loaded
    pub walked-ldb : (s : SymState) (slot bank r : ℕ) (block : Option Value) → blocks_of o bank ≡ blocks_set f bank
        → tree_held s r ≡ block → IsSeen bank block
        → Walked o depth s (Ldb slot bank r ∷ []) (load_shows (block_loaded f bank block))
        (hold_slot s slot (block_loaded f bank block))
    unfolding single
    walked-ldb s slot bank r block sizes held seen = by (is_ram bank) refl (is_eram bank) refl block held seen
      where
        goes : (ram : Bool) → is_ram bank ≡ ram → (eram : Bool) → is_eram bank ≡ eram → (t : Option Value)
            → tree_held s r ≡ t
            → single o s (Ldb slot bank r)
            ≡ (if ram then plain_load o s slot bank t
            else (if eram then encrypted_load o s slot bank t
            else Goes (event (Oram bank)) (hold_slot s slot (OramSlot bank))))
        goes ram is eram other t e =
            λ i.
            if is i then plain_load o s slot bank (e i)
            else (if other i then encrypted_load o s slot bank (e i)
            else Goes (event (Oram bank)) (hold_slot s slot (OramSlot bank)))

        named : (at : ℕ) → bank ≡ at → (t : Value) → named_block o bank t ≡ block_named_by f at t
        named at same t = λ i. Apply Remu t (Const (pos ((sizes ∙ ap (blocks_set f) same) i)))

        by : (ram : Bool) → is_ram bank ≡ ram → (eram : Bool) → is_eram bank ≡ eram → (t : Option Value)
            → tree_held s r ≡ t → IsSeen bank t
            → Walked o depth s (Ldb slot bank r ∷ [])
            (load_shows (if ram then plain_loaded f t else (if eram then encrypted_loaded f t else OramSlot bank)))
            (hold_slot s slot
            (if ram then plain_loaded f t else (if eram then encrypted_loaded f t else OramSlot bank)))
        by true is eram other (Some t) e h =
            let same = named 0 (eqb-true bank 0 is) t in
            walked-one o depth s (Ldb slot bank r) (Seen (RamRead (block_named_by f 0 t)))
            (hold_slot s slot (RamSlot (block_named_by f 0 t) Loaded))
            (goes true is eram other (Some t) e
            ∙ λ i. Goes (event (RamRead (same i))) (hold_slot s slot (RamSlot (same i) Loaded)))
        by true is eram other None e h =
            let at : bank ≡ 0 = eqb-true bank 0 is in
            let none = h (omega arith) in
            absurd (let e : ◌≡◌ {A = Option Value} None (Some none.0) = none.1 in cc)
        by false is true other (Some t) e h =
            let same = named 1 (eqb-true bank 1 other) t in
            walked-one o depth s (Ldb slot bank r) (Seen (EncRead (block_named_by f 1 t)))
            (hold_slot s slot (EramSlot (block_named_by f 1 t)))
            (goes false is true other (Some t) e
            ∙ λ i. Goes (event (EncRead (same i))) (hold_slot s slot (EramSlot (same i))))
        by false is true other None e h =
            let at : bank ≡ 1 = eqb-true bank 1 other in
            let none = h (omega arith) in
            absurd (let e : ◌≡◌ {A = Option Value} None (Some none.0) = none.1 in cc)
        by false is false other t e h =
            walked-one o depth s (Ldb slot bank r) (Seen (Oram bank)) (hold_slot s slot (OramSlot bank))
            (goes false is false other t e)
