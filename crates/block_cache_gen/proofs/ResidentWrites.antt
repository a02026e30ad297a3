-- A word of a resident variable is written in its slot, and the machine then represents the store that is assigned.
use Rattle.std.proofs.Common.{◌≡◌, ◌≢◌, ℕ, ◌+◌, ◌/◌, ◌%◌, ◌<◌, ◌≤◌, Bool, true, false, ℤ, pos, List, [], ◌∷◌, length, get_or, set, Some, None, refl, sym, ap, ◌∙◌, subst, arith}
use Rattle.std.proofs.lemmas.List.{set-get_or}
use Rattle.gr_word.specs.Prelude.{IsWord}
use Rattle.gr_word.specs.declared.variables.Label.{Label}
use Rattle.gr_word.specs.declared.variables.Shape.{Shape}
use Rattle.lt_isa.specs.declared.instructions.Instr.TheVariants.{Ldw, Stw}
use Rattle.lt_isa.specs.Prelude.{Parts, block_words, IsInRange, State, Slot, Unbound, Bound, register, slot, word_in, set_slot, slot_words, IsShaped, word_named}
use Rattle.lt_isa.proofs.Steps.{bound-fits}
use Rattle.stretches.specs.Prelude.{StandsAt, RunsThrough, Sets}
use Rattle.stretches.proofs.Coming.{comes-stw}
use Rattle.stretches.proofs.RunningThrough.{runs-cons, runs-one, runs-weaker, sets-ldw}
use Rattle.src_tree.specs.Prelude.{context_of, Store, variable_number, words_of_number, with_word}
use Rattle.block_cache_gen.specs.declared.frames.Mode.{Mode}
use Rattle.block_cache_gen.specs.declared.frames.Mode.TheVariants.{Public, Real, Mirrored}
use Rattle.block_cache_gen.specs.Prelude.{Setting, HasHomes, home_of, slot_of_word, words_a_block, register_for, store_code, StandsFor, FitsHomes, HoldsBlock, Assigns, by_mode, words_written, first_kept}
use Rattle.block_cache_gen.proofs.HomeFacts.{block_words-is}
use Rattle.block_cache_gen.proofs.Stands.{stands-like}
use Rattle.block_cache_gen.proofs.Stores.{fits-with_word, with_word-by_mode}
use Rattle.block_cache_gen.proofs.ResidentStores.{stands-resident_set}
use Rattle.block_cache_gen.proofs.ResidentRuns.{resident-held}

-- a slot was bound anew, and the banks and the registers from 3 on are as before
pub record Binds (k : ℕ) (found : Slot) (s t : State) : Type 0 where
  pub above : (r : ℕ) → 3 ≤ r → register t r ≡ register s r
  pub slots : t.slots ≡ set s.slots k found
  pub banks : t.banks ≡ s.banks

pub by_mode-fits : (mode : Mode) (f : Setting) (effect none : Store) → FitsHomes f effect → FitsHomes f none
    → FitsHomes f (by_mode mode effect none)
by_mode-fits Public f effect none first second = first
by_mode-fits Real f effect none first second = first
by_mode-fits Mirrored f effect none first second = second

module _ (o : Parts) (fits : IsInRange o) where
  -- a word is stored in a slot
  runs-stw : (rs k b a n : ℕ) (words : List ℤ) (value : ℤ) (s : State) → IsShaped o s → slot s k ≡ Bound b a words
      → register s rs ≡ value → register s 1 ≡ pos n → StandsAt o s.place (Stw rs k 1 ∷ [])
      → RunsThrough o s (Stw rs k 1 ∷ []) [] (Binds k (Bound b a (set words (n % block_words o) value)) s)
  runs-stw rs k b a n words value s shaped held has place at =
      let named : word_named o (register s 1) ≡ n % block_words o = ap (λ word. word_named o word) place in
      runs-one s (Stw rs k 1) [] (Binds k (Bound b a (set words (n % block_words o) value)) s) at
      (λ stands.
      comes-stw o fits s shaped rs k 1 b a words
      (Binds k (Bound b a (set words (n % block_words o) value)) s) stands held
      (record {
        above = λ r over. refl;
        slots =
            ap (λ i. set s.slots k (Bound b a (set words i (register s rs)))) named
            ∙ ap (λ word. set s.slots k (Bound b a (set words (n % block_words o) word))) has;
        banks = refl;
      }))

  -- the old word is read first, into register 2
  runs-rewrite : (rs k b a n : ℕ) (words : List ℤ) (value : ℤ) (s : State) → IsShaped o s → slot s k ≡ Bound b a words
      → ((t : State) → Sets s 2 (word_in words (n % block_words o)) t → register t rs ≡ value)
      → register s 1 ≡ pos n → StandsAt o s.place (Ldw 2 k 1 ∷ Stw rs k 1 ∷ [])
      → RunsThrough o s (Ldw 2 k 1 ∷ Stw rs k 1 ∷ []) [] (Binds k (Bound b a (set words (n % block_words o) value)) s)
  runs-rewrite rs k b a n words value s shaped held has place at =
      let old = word_in words (n % block_words o) in
      let found = Bound b a (set words (n % block_words o) value) in
      runs-cons s (Ldw 2 k 1) (Stw rs k 1 ∷ []) [] [] (Sets s 2 old) (Binds k found s) at
      (sets-ldw o fits s shaped 2 k 1 b a words old (omega arith) held
      (ap (λ word. word_in words (word_named o word)) place))
      (λ t shape sets at'.
      runs-weaker t (Stw rs k 1 ∷ []) [] [] (Binds k found t) (Binds k found s)
      (runs-stw rs k b a n words value t shape (ap (λ l. get_or l k Unbound) sets.slots ∙ held) (has t sets)
      (sets.others 1 (λ same. absurd (omega arith)) ∙ place) at')
      refl
      (λ u shape' binds. record {
        above = λ r over. binds.above r over ∙ sets.others r (λ same. absurd (omega (arith, over, same)));
        slots = binds.slots ∙ ap (λ l. set l k found) sets.slots;
        banks = binds.banks ∙ sets.banks;
      }))

  -- the old word is read in place of its store, into register 0
  runs-only_read : (k b a n : ℕ) (words : List ℤ) (s : State) → IsShaped o s → slot s k ≡ Bound b a words
      → register s 1 ≡ pos n → StandsAt o s.place (Ldw 0 k 1 ∷ [])
      → RunsThrough o s (Ldw 0 k 1 ∷ []) []
      (Binds k (Bound b a (set words (n % block_words o) (word_in words (n % block_words o)))) s)
  runs-only_read k b a n words s shaped held place at =
      let i = n % block_words o in
      let old = word_in words i in
      let found = Bound b a (set words i old) in
      let same : found ≡ slot s k = ap (λ l. Bound b a l) (set-get_or words i (pos 0)) ∙ sym held in
      runs-weaker s (Ldw 0 k 1 ∷ []) [] [] (Sets s 0 old) (Binds k found s)
      (runs-one s (Ldw 0 k 1) [] (Sets s 0 old) at
      (sets-ldw o fits s shaped 0 k 1 b a words old (omega arith) held
      (ap (λ word. word_in words (word_named o word)) place)))
      refl
      (λ t shape sets. record {
        above = λ r over. sets.others r (λ e. absurd (omega (arith, over, e)));
        slots = sets.slots ∙ sym (set-get_or s.slots k Unbound) ∙ ap (λ bound. set s.slots k bound) (sym same);
        banks = sets.banks;
      })

  pub runs-store : (once : Bool) (mode : Mode) (k v b a n : ℕ) (words : List ℤ) (value : ℤ) (s : State)
      → IsShaped o s → slot s k ≡ Bound b a words
      → register s v ≡ value → v ≢ 2 → register s 1 ≡ pos n → StandsAt o s.place (store_code once mode k v)
      → RunsThrough o s
      (store_code once mode k v) [] (Binds k (Bound b a (words_written mode words (n % block_words o) value)) s)
  runs-store once Public k v b a n words value s shaped held has other place at =
      runs-stw v k b a n words value s shaped held has place at
  runs-store false Real k v b a n words value s shaped held has other place at =
      runs-rewrite v k b a n words value s shaped held (λ t sets. sets.others v other ∙ has) place at
  runs-store true Real k v b a n words value s shaped held has other place at =
      runs-stw v k b a n words value s shaped held has place at
  runs-store false Mirrored k v b a n words value s shaped held has other place at =
      runs-rewrite 2 k b a n words (word_in words (n % block_words o)) s shaped held (λ t sets. sets.value) place at
  runs-store true Mirrored k v b a n words value s shaped held has other place at =
      runs-only_read k b a n words s shaped held place at

module _ (o : Parts) (fits : IsInRange o) (f : Setting) (homes : HasHomes o f) (store : Store)
    (store_fits : FitsHomes f store) where
  -- With a word of a resident variable written in its slot the machine represents the store that is assigned.
  pub put-done : (mode : Mode) (x : List ℕ) (label : Label) (shape : Shape)
      → (known : context_of f.decls x ≡ Some (label, shape)) → (home_of f x).resident ≡ true → register_for f x ≡ None
      → (n : ℕ) → n < (home_of f x).length → (value : ℤ) → IsWord value → (u : State) → IsShaped o u → StandsFor f u store
      → (held : HoldsBlock (slot u (slot_of_word f (home_of f x) ((home_of f x).word + n))) (home_of f x).bank
      ((home_of f x).block + ((home_of f x).word + n) / words_a_block f))
      → (after : State)
      → after.slots ≡ set u.slots (slot_of_word f (home_of f x) ((home_of f x).word + n))
      (Bound (home_of f x).bank ((home_of f x).block + ((home_of f x).word + n) / words_a_block f)
      (words_written mode held.words (((home_of f x).word + n) % block_words o) value))
      → after.banks ≡ u.banks → ((r : ℕ) → first_kept f ≤ r → register after r ≡ register u r)
      → Assigns f (by_mode mode (with_word store (variable_number f.decls x) n value) store) after
  put-done mode x label shape known resident free n within value is u shaped stands held after slots banks above =
      let h = home_of f x in
      let k = variable_number f.decls x in
      let number = h.word + n in
      let slot = slot_of_word f h number in
      let block = h.block + number / words_a_block f in
      let at_word = number % words_a_block f in
      let words = held.words in
      let old = get_or (words_of_number store k) n (pos 0) in
      let size : length words ≡ block_words o =
      (bound-fits o u shaped slot h.bank block words held.holds).holds_block.size in
      let reads : word_in words at_word ≡ old =
      ap (λ b. word_in (slot_words b) at_word) (sym held.holds)
      ∙ stands.residents x label shape n known resident free within in
      let word = by_mode mode value old in
      let same_words : words_written mode words (number % block_words o) value ≡ set words at_word word =
      ap (λ w. words_written mode words (number % w) value) (block_words-is homes)
      ∙ ap (λ z. set words at_word (by_mode mode value z)) reads in
      record {
        stands =
            subst (StandsFor f after) (with_word-by_mode mode store k n value)
            (stands-like f (set_slot u slot (Bound h.bank block (set words at_word word))) after
            (with_word store k n word)
            (slots ∙ ap (λ l. set u.slots slot (Bound h.bank block l)) same_words) banks above
            (stands-resident_set o f homes u shaped.slot_count store store_fits stands x label shape known resident free n
            within words held.holds size word));
        fits = by_mode-fits mode f (with_word store k n value) store
            (fits-with_word f store k n value is store_fits) store_fits;
      }

  -- a word of a resident variable is written, by the number of the word and its slot
  pub runs-put : (mode : Mode) (x : List ℕ) (label : Label) (shape : Shape) → context_of f.decls x ≡ Some (label, shape)
      → (home_of f x).resident ≡ true → register_for f x ≡ None → (n : ℕ) → n < (home_of f x).length → (v : ℕ)
      → v ≢ 2 → (value : ℤ) → IsWord value → (u : State) → IsShaped o u → StandsFor f u store → register u v ≡ value
      → register u 1 ≡ pos ((home_of f x).word + n)
      → StandsAt o u.place (store_code f.reduces mode (slot_of_word f (home_of f x) ((home_of f x).word + n)) v)
      → RunsThrough o u (store_code f.reduces mode (slot_of_word f (home_of f x) ((home_of f x).word + n)) v) []
      (Assigns f (by_mode mode (with_word store (variable_number f.decls x) n value) store))
  runs-put mode x label shape known resident free n within v other value is u shaped stands has place at =
      let h = home_of f x in
      let number = h.word + n in
      let slot = slot_of_word f h number in
      let block = h.block + number / words_a_block f in
      let held = resident-held o fits f homes store store_fits x label shape known resident n within u stands in
      let found = Bound h.bank block (words_written mode held.words (number % block_words o) value) in
      runs-weaker u (store_code f.reduces mode slot v) [] [] (Binds slot found u)
      (Assigns f (by_mode mode (with_word store (variable_number f.decls x) n value) store))
      (runs-store o fits f.reduces mode slot v h.bank block number held.words value u shaped held.holds has other place at)
      refl
      (λ after shape'' binds.
      put-done mode x label shape known resident free n within value is u shaped stands held after binds.slots binds.banks
      (λ r over. binds.above r (omega (arith, over))))
