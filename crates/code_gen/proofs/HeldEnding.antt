-- Runs of the code that stores the scalars that registers hold: afterwards the machine represents the same store with
-- each scalar in its slot.
use Rattle.std.proofs.Common.{◌≡◌, ◌≢◌, ℕ, zero, suc, ◌+◌, ◌-◌, ◌%◌, ◌<◌, ◌≤◌, Bool, true, false, ℤ, pos, List, [], ◌∷◌, ◌++◌, length, get_or, set, append_assoc, length-append, Option, Some, None, refl, sym, ap, ◌∙◌, subst, ⊎_elim, arith, mod-eq_of_lt, pow_pos}
use Rattle.std.specs.Prelude.{nat_lt, if◌then◌else◌}
use Rattle.std.specs.List.{slice_get}
use Rattle.std.proofs.lemmas.Bool.{cases_eq, le-ltb, ltb-false}
use Rattle.std.proofs.lemmas.List.{get_or-set_same, set-set}
use Rattle.std.proofs.lemmas.Option.{slice_get_within}
use Rattle.gr_word.specs.Prelude.{IsWord}
use Rattle.gr_word.specs.declared.variables.Label.{Label}
use Rattle.gr_word.specs.declared.variables.Shape.TheVariants.{Scalar, Array}
use Rattle.lt_isa.specs.declared.instructions.Instr.TheVariants.{Li, Stw}
use Rattle.lt_isa.specs.Prelude.{Parts, block_words, IsInRange, State, Slot, Bound, register, slot, word_in, set_slot, slot_words, IsShaped, word_named}
use Rattle.lt_isa.proofs.Steps.{bound-fits}
use Rattle.stretches.specs.Prelude.{StandsAt, greatest_costs, Comes, RunsThrough, Sets}
use Rattle.stretches.proofs.Coming.{comes-here, comes-stw}
use Rattle.stretches.proofs.RunningThrough.{runs-cons, runs-one, runs-append, runs-weaker, sets-li}
use Rattle.src_tree.specs.declared.trees.Decl.{Decl}
use Rattle.src_tree.specs.Prelude.{context_of, Store, variable_number, words_of_number, scalar, with_word, DeclaredOnce}
use Rattle.src_tree.proofs.VariableNumbers.{number-below}
use Rattle.held_registers.specs.Prelude.{held_at, word_held, secret_zero, public_zero, IsSoundHeld}
use Rattle.held_registers.proofs.Found.{held-high, scalar-held}
use Rattle.block_cache_gen.specs.Prelude.{home_numbered, end_code, each_held, held_ending, Held, Home, Setting, HasHomes, home_of, no_home, pin_of, register_for, slot_of_word, words_a_block, StandsFor, FitsHomes}
use Rattle.block_cache_gen.proofs.HeldBeginning.{HasName, unheld, held-name}
use Rattle.block_cache_gen.proofs.HeldScalars.{array-free, held-listed, held-words, scalar-found}
use Rattle.block_cache_gen.proofs.HomeFacts.{block_words-is}
use Rattle.block_cache_gen.proofs.WordSlots.{one-block, single-word}
use Rattle.block_cache_gen.proofs.Ranged.{homes-same}
use Rattle.block_cache_gen.proofs.ResidentStores.{stands-single_set}
use Rattle.block_cache_gen.proofs.Stands.{stands-like, stands-set}
use Rattle.block_cache_gen.proofs.Stores.{fits-with_word, with_word-itself, words-other, words-same}
use Rattle.held_registers.specs.declared.registers.Held.TheVariants as thing

-- one thing in a list of held things
get-other : (done rest : List Held) (x y : Held) (j : ℕ) → j ≢ length done
    → slice_get (done ++ x ∷ rest) j ≡ slice_get (done ++ y ∷ rest) j
get-other [] rest x y zero other = absurd (other refl)
get-other [] rest x y (suc j) other = refl
get-other (d ∷ done) rest x y zero other = refl
get-other (d ∷ done) rest x y (suc j) other = get-other done rest x y j (λ same. other (ap suc same))

get-here : (done rest : List Held) (x : Held) → slice_get (done ++ x ∷ rest) (length done) ≡ Some x
get-here [] rest x = refl
get-here (d ∷ done) rest x = get-here done rest x

held-here : (done rest : List Held) (x : Held) → held_at (done ++ x ∷ rest) (19 + length done) ≡ Some x
held-here done rest x =
    let low : nat_lt (19 + length done) 19 ≡ false = le-ltb (19 + length done) 19 (omega arith) in
    let place : 19 + length done - 19 ≡ length done = omega arith in
    ap (λ (b : Bool). if b then None else slice_get (done ++ x ∷ rest) (19 + length done - 19)) low
    ∙ ap (slice_get (done ++ x ∷ rest)) place
    ∙ get-here done rest x

held-other : (done rest : List Held) (x y : Held) (q : ℕ) → q ≢ 19 + length done
    → held_at (done ++ x ∷ rest) q ≡ held_at (done ++ y ∷ rest) q
held-other done rest x y q other = by (nat_lt q 19) refl
  where
    by : (low : Bool) → nat_lt q 19 ≡ low
        → (if low then None else slice_get (done ++ x ∷ rest) (q - 19))
        ≡ (if low then None else slice_get (done ++ y ∷ rest) (q - 19))
    by true is = refl
    by false is =
        let high : 19 ≤ q = ltb-false q 19 is in
        get-other done rest x y (q - 19) (λ same. other (omega (arith, same, high)))

-- no register holds anything
holds-nothing : (r : ℕ) (h : Held) → held_at [] r ≡ Some h → ⊥
holds-nothing r h at =
    let within = slice_get_within [] (r - 19) h (held-listed [] r h at) in omega (arith, within)

-- no code
runs-nothing : {o : Parts} (s : State) (P : State → Type 0) → IsShaped o s → P s → RunsThrough o s [] [] P
runs-nothing {o = o} s P shaped holds =
    subst (λ p. Comes o s [] p (greatest_costs o []) P) (let e : s.place ≡ s.place + 0 = omega arith in e)
    (comes-here s (greatest_costs o []) P shaped holds)

some-one : (h g : Held) → Some h ≡ Some g → h ≡ g
some-one h g e = let f : ◌≡◌ {A = Option Held} (Some h) (Some g) = e in cc

zero-scalar : (n : ℕ) → thing.SecretZero ≡ thing.Scalar n → ⊥
zero-scalar n e = cc

number-scalar : (z : ℤ) (n : ℕ) → thing.Number z ≡ thing.Scalar n → ⊥
number-scalar z n e = cc

number-one : (y z : ℤ) → thing.Number y ≡ thing.Number z → y ≡ z
number-one y z e = cc

scalar-one : (m n : ℕ) → thing.Scalar m ≡ thing.Scalar n → m ≡ n
scalar-one m n e = cc

-- a number in the place of a scalar
module _ (decls : List Decl) (done rest : List Held) (n : ℕ) (z : ℤ) where
  abbrev scalars : List Held
  scalars = done ++ thing.Scalar n ∷ rest

  abbrev numbers : List Held
  numbers = done ++ thing.Number z ∷ rest

  abbrev here : ℕ
  here = 19 + length done

  pub still : (q : ℕ) (h : Held) → held_at scalars q ≡ Some h → (h ≡ thing.Scalar n → ⊥) → held_at numbers q ≡ Some h
  still q h at other =
      ⊎_elim
      (λ (same : q ≡ here).
      absurd (other (some-one h (thing.Scalar n)
      (sym at ∙ ap (held_at scalars) same ∙ held-here done rest (thing.Scalar n)))))
      (λ (differ : q ≢ here). held-other done rest (thing.Number z) (thing.Scalar n) q differ ∙ at)
      (cases_eq q here)

  pub was : (q : ℕ) (h : Held) → held_at numbers q ≡ Some h → (h ≡ thing.Number z → ⊥)
      → (held_at scalars q ≡ Some h) × (q ≢ here)
  was q h at other =
      ⊎_elim
      (λ (same : q ≡ here).
      absurd (other (some-one h (thing.Number z)
      (sym at ∙ ap (held_at numbers) same ∙ held-here done rest (thing.Number z)))))
      (λ (differ : q ≢ here). (held-other done rest (thing.Scalar n) (thing.Number z) q differ ∙ at, differ))
      (cases_eq q here)

  pub number-sound : IsWord z → IsSoundHeld decls scalars → IsSoundHeld decls numbers
  number-sound word sound =
      let size = length-append done (thing.Scalar n ∷ rest) in
      let size' = length-append done (thing.Number z ∷ rest) in
      let some : 0 < length scalars = omega (arith, size) in
      record {
        few = omega (arith, sound.few, size, size');
        secret = λ filled. still secret_zero thing.SecretZero (sound.secret some) (zero-scalar n);
        public = λ filled. still public_zero (thing.Number (pos 0)) (sound.public some) (number-scalar (pos 0) n);
        scalars = λ r m at. sound.scalars r m (was r (thing.Scalar m) at (λ e. number-scalar z m (sym e))).0;
        once = λ r q m first second.
            sound.once r q m (was r (thing.Scalar m) first (λ e. number-scalar z m (sym e))).0
            (was q (thing.Scalar m) second (λ e. number-scalar z m (sym e))).0;
        words = λ q y at.
            ⊎_elim
            (λ (same : q ≡ here).
            subst IsWord
            (number-one z y (some-one (thing.Number z) (thing.Number y)
            (sym (held-here done rest (thing.Number z)) ∙ ap (held_at numbers) (sym same) ∙ at))) word)
            (λ (differ : q ≢ here).
            sound.words q y (held-other done rest (thing.Scalar n) (thing.Number z) q differ ∙ at))
            (cases_eq q here);
      }

-- a setting with other held registers
abbrev pub with_held : Setting → List Held → Setting
with_held f held = record f { held = held }

pub homes-with : {o : Parts} {f : Setting} (held : List Held) → IsSoundHeld f.decls held → HasHomes o f
    → HasHomes o (with_held f held)
homes-with {o} {f} held sound homes = homes-same o f o.notes o.code held f.ranges sound homes

fits-with : {f : Setting} {store : Store} (held : List Held) → FitsHomes f store → FitsHomes (with_held f held) store
fits-with held fits = record { count = fits.count; lengths = fits.lengths; all_words = fits.all_words }

-- a word that is written twice
with_word-twice : (store : Store) (k i : ℕ) (a b : ℤ) → k < length store
    → with_word (with_word store k i a) k i b ≡ with_word store k i b
with_word-twice store k i a b within =
    let words = words_of_number store k in
    ap (λ ws. set (with_word store k i a) k (set ws i b)) (words-same store k i a within)
    ∙ ap (λ ws. set (set store k (set words i a)) k ws) (set-set words i a b)
    ∙ set-set store k (set words i a) (set words i b)

-- a slot was bound anew
record Binds (k : ℕ) (found : Slot) (s t : State) : Type 0 where
  kept : (r : ℕ) → register t r ≡ register s r
  slots : t.slots ≡ set s.slots k found
  banks : t.banks ≡ s.banks

module _ (o : Parts) (fits : IsInRange o) (f : Setting) (base : HasHomes o f) (once : DeclaredOnce f.decls)
    (store : Store) (store_fits : FitsHomes f store) where
  -- what registers hold, of which those below one hold no scalar any more
  record Ends (all : List Held) (r : ℕ) (s : State) : Type 0 where
    sound : IsSoundHeld f.decls all
    stands : StandsFor (with_held f all) s store
    plain : (q n : ℕ) → q < r → held_at all q ≡ Some (thing.Scalar n) → ⊥

  -- one scalar is to be stored
  module _ (done rest : List Held) (n : ℕ) (sound : IsSoundHeld f.decls (done ++ thing.Scalar n ∷ rest))
      (named : HasName (with_held f (done ++ thing.Scalar n ∷ rest)) n) where
    abbrev value : ℤ
    value = scalar store n

    abbrev old : Setting
    old = with_held f (done ++ thing.Scalar n ∷ rest)

    abbrev new : Setting
    new = with_held f (done ++ thing.Number value ∷ rest)

    abbrev register_here : ℕ
    register_here = 19 + length done

    abbrev scalar_home : Home
    scalar_home = home_of f named.name

    one-word : length (words_of_number store (variable_number f.decls named.name)) ≡ 1
    one-word =
        store_fits.lengths named.name named.label Scalar named.known
        ∙ (base.scalars named.name named.label named.known).length

    in-store : variable_number f.decls named.name < length store
    in-store =
        omega (arith, number-below f.decls named.name (named.label, Scalar) named.known, store_fits.count)

    value-word : IsWord value
    value-word =
        let long : length (words_of_number store n) ≡ 1 =
        ap (λ k. length (words_of_number store k)) (sym named.number) ∙ one-word in
        store_fits.all_words n 0 (pos 0) (omega (arith, long))

    -- which variables have a register
    free-new : register_for new named.name ≡ None
    free-new = by (register_for new named.name) refl
      where
        by : (q : Option ℕ) → register_for new named.name ≡ q → q ≡ None
        by None is = refl
        by (Some q) is =
            let k = variable_number f.decls named.name in
            let at = scalar-held (done ++ thing.Number value ∷ rest) k q is in
            let before = was f.decls done rest n value q (thing.Scalar k) at (λ e. number-scalar value k (sym e)) in
            let also = before.0 ∙ ap (λ m. Some (thing.Scalar m)) named.number in
            absurd (before.1 (sound.once q register_here n also (held-here done rest (thing.Scalar n))))

    free-old : (y : List ℕ) → register_for new y ≡ None → variable_number f.decls y ≢ n → register_for old y ≡ None
    free-old y free other = by (register_for old y) refl
      where
        by : (q : Option ℕ) → register_for old y ≡ q → q ≡ None
        by None is = refl
        by (Some q) is =
            let m = variable_number f.decls y in
            let at = scalar-held (done ++ thing.Scalar n ∷ rest) m q is in
            let after = still f.decls done rest n value q (thing.Scalar m) at (λ e. other (scalar-one m n e)) in
            absurd (scalar-found (done ++ thing.Number value ∷ rest) m q after free)

    array-other : (y : List ℕ) (label : Label) → context_of f.decls y ≡ Some (label, Array)
        → variable_number f.decls y ≢ variable_number f.decls named.name
    array-other y label known same =
        let m = variable_number f.decls y in
        let at : held_at (done ++ thing.Scalar n ∷ rest) register_here ≡ Some (thing.Scalar m) =
        held-here done rest (thing.Scalar n) ∙ ap (λ k. Some (thing.Scalar k)) (sym (same ∙ named.number)) in
        scalar-found (done ++ thing.Scalar n ∷ rest) m register_here at (array-free old sound y label known)

    -- before, the machine represents a store that has the word of the slot
    stale : (t : State) → StandsFor old t store → (words : List ℤ)
        → slot t scalar_home.slot ≡ Bound scalar_home.bank scalar_home.block words
        → StandsFor new t
        (with_word store (variable_number f.decls named.name) 0 (word_in words (scalar_home.word + 0)))
    stale t stands words holds =
        let x = named.name in
        let h = scalar_home in
        let k = variable_number f.decls x in
        let scalar = base.scalars x named.label named.known in
        let one = scalar.length in
        let scalar-low = one-block f (block_words o) named.label h
        (base.residents x named.label Scalar named.known scalar.resident) (block_words-is base)
        (pow_pos o.profile.block_log) scalar.single in
        let word = word_in words (h.word + 0) in
        let after = with_word store k 0 word in
        record {
          pinned = stands.pinned;
          residents = λ y label shape i known resident free inside.
              let g = home_of f y in
              let m = variable_number f.decls y in
              ⊎_elim
              (λ (same : m ≡ k).
              let home_same : g ≡ h = ap (λ v. get_or f.homes v no_home) same in
              let first : i ≡ 0 = omega (arith, inside, one, ap (λ (z : Home). z.length) home_same) in
              ap (λ (z : Home). word_in (slot_words (slot t (slot_of_word f z (z.word + i)))) ((z.word + i) % words_a_block f))
              home_same
              ∙ single-word f h (λ k. slot_words (slot t k)) (h.word + i) scalar.single
              (omega (arith, first, one, scalar-low, block_words-is base))
              ∙ ap (λ b. word_in (slot_words b) (h.word + i)) holds
              ∙ ap (λ j. word_in words (h.word + j)) first
              ∙ sym
              (ap (λ ws. get_or ws i (pos 0))
              (ap (λ v. words_of_number after v) same ∙ words-same store k 0 word in-store)
              ∙ ap (λ j. get_or (set (words_of_number store k) 0 word) j (pos 0)) first
              ∙ get_or-set_same (words_of_number store k) 0 word (pos 0) (omega (arith, one-word))))
              (λ (other : m ≢ k).
              stands.residents y label shape i known resident
              (free-old y free (λ same. other (same ∙ sym named.number))) inside
              ∙ ap (λ ws. get_or ws i (pos 0)) (sym (words-other store k 0 m word other)))
              (cases_eq m k);
          arrays = λ y label i known turn inside.
              stands.arrays y label i known turn inside
              ∙ ap (λ ws. get_or ws i (pos 0))
              (sym (words-other store k 0 (variable_number f.decls y) word (array-other y label known)));
          bound = stands.bound;
          current = stands.current;
          held = λ q g at.
              ⊎_elim
              (λ (same : q ≡ register_here).
              let is : thing.Number value ≡ g =
              some-one (thing.Number value) g
              (sym (held-here done rest (thing.Number value))
              ∙ ap (held_at (done ++ thing.Number value ∷ rest)) (sym same) ∙ at) in
              ap (register t) same
              ∙ stands.held register_here (thing.Scalar n) (held-here done rest (thing.Scalar n))
              ∙ ap (word_held after) is)
              (λ (other : q ≢ register_here).
              stands.held q g (held-other done rest (thing.Scalar n) (thing.Number value) q other ∙ at)
              ∙ held-words new x free-new store 0 word q g at)
              (cases_eq q register_here);
        }

    -- afterwards it represents the store itself
    stored : (t u : State) → IsShaped o t → StandsFor old t store → (words : List ℤ)
        → slot t scalar_home.slot ≡ Bound scalar_home.bank scalar_home.block words
        → Binds scalar_home.slot
        (Bound scalar_home.bank scalar_home.block (set words (scalar_home.word + 0) value)) t u
        → StandsFor new u store
    stored t u shaped stands words holds binds =
        let x = named.name in
        let h = scalar_home in
        let k = variable_number f.decls x in
        let one = base.scalars x named.label named.known in
        let home = base.residents x named.label Scalar named.known one.resident in
        let inside = one-block f (block_words o) named.label h home (block_words-is base) (pow_pos o.profile.block_log)
        one.single in
        let word = word_in words (h.word + 0) in
        let block = (bound-fits o t shaped h.slot h.bank h.block words holds).holds_block in
        let is : IsWord word = block.all_words (h.word + 0) (pos 0) (omega (arith, block.size, inside, one.length)) in
        let numbers = done ++ thing.Number value ∷ rest in
        let homes = homes-with numbers (number-sound f.decls done rest n value value-word sound) base in
        let fit = fits-with_word new store k 0 word is (fits-with numbers store_fits) in
        let same : with_word (with_word store k 0 word) k 0 value ≡ store =
        with_word-twice store k 0 word value in-store
        ∙ ap (λ m. with_word store k 0 (scalar store m)) (sym named.number)
        ∙ with_word-itself store k 0 in
        let bound = set_slot t h.slot (Bound h.bank h.block (set words (h.word + 0) value)) in
        stands-like new bound u store binds.slots binds.banks (λ r over. binds.kept r)
        (subst (StandsFor new bound) same
        (stands-single_set o new homes t shaped.slot_count (with_word store k 0 word) fit
        (stale t stands words holds) x named.label Scalar named.known one.resident free-new one.single 0
        (omega (arith, one.length)) words holds block.size value))

    runs-stored : (s : State) → IsShaped o s → StandsFor old s store
        → StandsAt o s.place (end_code f register_here (thing.Scalar n))
        → RunsThrough o s (end_code f register_here (thing.Scalar n)) [] (λ u. StandsFor new u store)
    runs-stored s shaped stands at =
        let x = named.name in
        let h = scalar_home in
        let g = home_numbered f n in
        let home_same : g ≡ h = ap (λ k. get_or f.homes k no_home) (sym named.number) in
        let word_same : g.word ≡ h.word = ap (λ (z : Home). z.word) home_same in
        let slot_same : g.slot ≡ h.slot = ap (λ (z : Home). z.slot) home_same in
        let one = base.scalars x named.label named.known in
        let home = base.residents x named.label Scalar named.known one.resident in
        let inside = one-block f (block_words o) named.label h home (block_words-is base) (pow_pos o.profile.block_log)
        one.single in
        let store_word = Stw register_here g.slot 0 in
        let P : State → Type 0 = λ u. StandsFor new u store in
        runs-cons s (Li 0 (pos g.word)) (store_word ∷ []) [] [] (Sets s 0 (pos g.word)) P at
        (sets-li o fits s shaped 0 (pos g.word) (omega arith))
        (λ t shape sets there.
        let before = stands-set sets (omega arith) stands in
        let holds = before.pinned h.slot (pin_of h) home.pinned in
        let words = holds.words in
        let has : register t register_here ≡ value =
        before.held register_here (thing.Scalar n) (held-here done rest (thing.Scalar n)) in
        let place : word_named o (register t 0) ≡ h.word + 0 =
        ap (λ word. word_named o word) sets.value
        ∙ mod-eq_of_lt (omega (arith, inside, one.length, word_same)) ∙ omega (arith, word_same) in
        runs-one t store_word [] P there
        (λ standing.
        comes-stw o fits t shape register_here g.slot 0 h.bank h.block words P standing
        (ap (slot t) slot_same ∙ holds.holds)
        (stored t _ shape before words holds.holds
        (record {
          kept = λ r. refl;
          slots =
              ap (λ k. set t.slots k (Bound h.bank h.block
              (set words (word_named o (register t 0)) (register t register_here)))) slot_same
              ∙ ap (λ i. set t.slots h.slot (Bound h.bank h.block (set words i (register t register_here)))) place
              ∙ ap (λ v. set t.slots h.slot (Bound h.bank h.block (set words (h.word + 0) v))) has;
          banks = refl;
        }))))

    -- one more register holds no scalar
    ends-stored : (s : State) → IsShaped o s → Ends (done ++ thing.Scalar n ∷ rest) register_here s
        → StandsAt o s.place (end_code f register_here (thing.Scalar n))
        → RunsThrough o s (end_code f register_here (thing.Scalar n)) []
        (Ends (done ++ thing.Number value ∷ rest) (register_here + 1))
    ends-stored s shaped ends at =
        let code = end_code f register_here (thing.Scalar n) in
        runs-weaker s code [] [] (λ u. StandsFor new u store)
        (Ends (done ++ thing.Number value ∷ rest) (register_here + 1)) (runs-stored s shaped ends.stands at) refl
        (λ u shape stands. record {
          sound = number-sound f.decls done rest n value value-word sound;
          stands = stands;
          plain = λ q m below there.
              let before = was f.decls done rest n value q (thing.Scalar m) there
              (λ e. number-scalar value m (sym e)) in
              ends.plain q m (omega (arith, below, before.1)) before.0;
        })

  -- what isn't a scalar stays
  ends-passed : (done rest : List Held) (h : Held) (r : ℕ) (s : State) → r ≡ 19 + length done
      → ((n : ℕ) → h ≡ thing.Scalar n → ⊥) → Ends (done ++ h ∷ rest) r s
      → Ends ((done ++ h ∷ []) ++ rest) (r + 1) s
  ends-passed done rest h r s is other ends =
      subst (λ l. Ends l (r + 1) s) (sym (append_assoc done (h ∷ []) rest))
      (record {
        sound = ends.sound;
        stands = ends.stands;
        plain = λ q n below at.
            ⊎_elim
            (λ (same : q ≡ r).
            other n (some-one h (thing.Scalar n)
            (sym (held-here done rest h) ∙ ap (held_at (done ++ h ∷ rest)) (sym (same ∙ is)) ∙ at)))
            (λ (differ : q ≢ r). ends.plain q n (omega (arith, below, differ)) at)
            (cases_eq q r);
      })

  longer : (done : List Held) (h : Held) (r : ℕ) → r ≡ 19 + length done → r + 1 ≡ 19 + length (done ++ h ∷ [])
  longer done h r is = omega (arith, is, length-append done (h ∷ []))

  -- at the end no register holds a scalar
  finished : (all : List Held) (r : ℕ) (s : State) → 19 + length all ≤ r → Ends all r s → StandsFor (unheld f) s store
  finished all r s past ends = record {
    pinned = ends.stands.pinned;
    residents = λ x label shape i known resident free inside.
        ends.stands.residents x label shape i known resident
        (none x (register_for (with_held f all) x) refl) inside;
    arrays = ends.stands.arrays;
    bound = ends.stands.bound;
    current = ends.stands.current;
    held = λ q h at. absurd (holds-nothing q h at);
  }
    where
      none : (x : List ℕ) (q : Option ℕ) → register_for (with_held f all) x ≡ q → register_for (with_held f all) x ≡ None
      none x None is = is
      none x (Some q) is =
          let m = variable_number f.decls x in
          let at = scalar-held all m q is in
          let within = slice_get_within all (q - 19) (thing.Scalar m) (held-listed all q (thing.Scalar m) at) in
          let high = held-high all q (thing.Scalar m) at in
          absurd (ends.plain q m (omega (arith, within, high, past)) at)

  -- the registers from one on
  stores-each : (rest done : List Held) (r : ℕ) (s : State) → r ≡ 19 + length done → IsShaped o s
      → Ends (done ++ rest) r s → StandsAt o s.place (each_held (end_code f) r rest)
      → RunsThrough o s (each_held (end_code f) r rest) [] (λ u. StandsFor (unheld f) u store)
  stores-each [] done r s is shaped ends at =
      runs-nothing s (λ u. StandsFor (unheld f) u store) shaped
      (finished (done ++ []) r s (omega (arith, is, length-append done [])) ends)
  stores-each (thing.SecretZero ∷ rest) done r s is shaped ends at =
      stores-each rest (done ++ thing.SecretZero ∷ []) (r + 1) s (longer done thing.SecretZero r is) shaped
      (ends-passed done rest thing.SecretZero r s is zero-scalar ends) at
  stores-each (thing.Number z ∷ rest) done r s is shaped ends at =
      stores-each rest (done ++ thing.Number z ∷ []) (r + 1) s (longer done (thing.Number z) r is) shaped
      (ends-passed done rest (thing.Number z) r s is (number-scalar z) ends) at
  stores-each (thing.Scalar n ∷ rest) done r s is shaped ends at =
      let all = done ++ thing.Scalar n ∷ rest in
      let named = held-name (with_held f all) ends.sound once (19 + length done) n
      (held-here done rest (thing.Scalar n)) in
      let more = each_held (end_code f) (r + 1) rest in
      let number = thing.Number (scalar store n) in
      let P : State → Type 0 = λ u. StandsFor (unheld f) u store in
      subst (λ q. StandsAt o s.place (end_code f q (thing.Scalar n) ++ more)
      → RunsThrough o s (end_code f q (thing.Scalar n) ++ more) [] P) (sym is)
      (λ there.
      runs-append s (end_code f (19 + length done) (thing.Scalar n)) more [] []
      (Ends (done ++ number ∷ rest) (19 + length done + 1)) P there
      (ends-stored done rest n ends.sound named s shaped (subst (λ q. Ends all q s) is ends))
      (λ u shape after later.
      stores-each rest (done ++ number ∷ []) (r + 1) u (longer done number r is) shape
      (subst (λ q. Ends ((done ++ number ∷ []) ++ rest) q u) (let e : 19 + length done + 1 ≡ r + 1 = omega (arith, is) in e)
      (subst (λ l. Ends l (19 + length done + 1) u) (sym (append_assoc done (number ∷ []) rest)) after)) later))
      at

  -- the code at the end of a program
  pub runs-held_ending : (s : State) → IsShaped o s → StandsFor f s store → StandsAt o s.place (held_ending f)
      → RunsThrough o s (held_ending f) [] (λ u. StandsFor (unheld f) u store)
  runs-held_ending s shaped stands at =
      stores-each f.held [] 19 s refl shaped
      (record {
        sound = base.held;
        stands = stands;
        plain = λ q n below there. let high = held-high f.held q (thing.Scalar n) there in omega (arith, high, below);
      }) at
